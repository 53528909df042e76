-- A key that was taken out isn't taken out again.
use Rattle.std.proofs.Common.{◌≡◌, ℕ, Bool, true, false, not, List, [], ◌∷◌, Option, None, Some, cond, inl, inr, refl, sym, ◌∙◌, ap}
use Rattle.std.specs.FinMap as finite
use Rattle.flash_names.specs.declared.place.Place.{Place}
use Rattle.flash_blocks.specs.BlockTable.{BlockTable}
use Rattle.flash_entry.specs.declared.entry.DropCause.{DropCause}
use Rattle.flash_lru.specs.declared.segment.Segment.TheVariants.{Hot}
use Rattle.flash_machine.specs.Item.{Item}
use Rattle.flash_machine.specs.Load.{item_load}
use Rattle.flash_index.specs.KeyLists.{KeyCard, KeyLists, is_of, idle, put_front, without, removed}
use Rattle.flash_index.proofs.Lookups.{cases_key, cut_here, cut_else, same_by_keys}
use Rattle.flash_calls.specs.Changes.{with_item}
use Rattle.flash_index.specs.Places.{Places}
use Rattle.flash_calls.specs.Places.{given_back}
use Rattle.flash_calls.specs.Store.{Desk}
use Rattle.flash_core.specs.Changes.{swept_desk}

module _ (key : List ℕ) where
  twice_by : (card : KeyCard) (cards : List KeyCard) (b : Bool) → is_of key card ≡ b → without key (without key cards) ≡ without key cards
      → without key (cond (not b) (card ∷ without key cards) (without key cards)) ≡ cond (not b) (card ∷ without key cards) (without key cards)
  twice_by card cards true is rest = rest
  twice_by card cards false is rest = ap (λ b. cond (not b) (card ∷ without key (without key cards)) (without key (without key cards))) is ∙ ap (λ (l : List KeyCard). card ∷ l) rest

  without-twice : (cards : List KeyCard) → without key (without key cards) ≡ without key cards
  without-twice [] = refl
  without-twice (card ∷ cards) = twice_by card cards (is_of key card) refl (without-twice cards)

  pub removed-twice : (lists : KeyLists) → removed key (removed key lists) ≡ removed key lists
  removed-twice lists = λ i. record { hot = without-twice lists.hot i; warm = without-twice lists.warm i; cold = without-twice lists.cold i }

  places_by : (places : Places) (q : List ℕ) → finite.get (finite.remove (finite.remove places key) key) q ≡ finite.get (finite.remove places key) q
  places_by places q = elim (cases_key q key) [
    | inl at ↦
        ap (finite.get (finite.remove (finite.remove places key) key)) at ∙ cut_here (finite.remove places key) key
        ∙ sym (ap (finite.get (finite.remove places key)) at ∙ cut_here places key)
    | inr apart ↦ cut_else (finite.remove places key) key q apart
  ]

  places-twice : (places : Places) → finite.remove (finite.remove places key) key ≡ finite.remove places key
  places-twice places = same_by_keys (finite.remove (finite.remove places key) key) (finite.remove places key) (places_by places)

  blocks-twice : (places : Places) (t : BlockTable) → given_back (finite.get (finite.remove places key) key) t ≡ t
  blocks-twice places t = ap (λ (place : Option Place). given_back place t) (cut_here places key)

  -- an item that is stored after a sweep leaves the same desk
  pub stored-swept : (item : Item) (cause : Option DropCause) (desk : Desk) → with_item key item (swept_desk cause key desk) ≡ with_item key item desk
  stored-swept item None desk = refl
  stored-swept item (Some cause) desk = λ j. record {
    lists = put_front Hot (idle key (item_load key item)) (removed-twice desk.lists j);
    places = places-twice desk.places j;
    blocks = blocks-twice desk.places (given_back (finite.get desk.places key) desk.blocks) j;
  }
