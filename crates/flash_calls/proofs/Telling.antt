-- What a lookup tells is by the item that is live in the run's own cache.
use Rattle.std.proofs.Common.{◌≡◌, ℕ, Bool, true, false, List, ◌++◌, length, Option, None, Some, option_map, if◌then◌else◌, refl, sym, ◌∙◌, ap, subst}
use Rattle.std.specs.FinMap as finite
use Rattle.std.proofs.lemmas.List.{length-replicate}
use Rattle.flash_names.specs.declared.place.Id.{Id}
use Rattle.flash_names.specs.declared.place.Label.{Label}
use Rattle.flash_names.specs.declared.place.Place.{Place}
use Rattle.flash_names.specs.declared.geometry.Geometry.{Geometry}
use Rattle.flash_entry.specs.declared.ask.Look.{Look}
use Rattle.flash_entry.specs.declared.found.Head.{Head}
use Rattle.flash_entry.specs.declared.entry.Entry.{Entry}
use Rattle.flash_blocks.specs.Laws.{EachRecordIsRead}
use Rattle.flash_machine.specs.Item.{Item}
use Rattle.flash_machine.specs.Cache.{Cache}
use Rattle.flash_machine.specs.Live.{live_item}
use Rattle.flash_machine.specs.Looking.{head_of_item}
use Rattle.flash_machine.specs.Steps.{cache_of}
use Rattle.flash_heads.specs.Heads.{hidden_value, hidden}
use Rattle.flash_heads.specs.Living.{EachLiveItemIsHidden}
use Rattle.flash_calls.specs.Below.{Below}
use Rattle.flash_calls.specs.Held.{parts_of}
use Rattle.flash_calls.specs.Laws.{EachLookupTells}
use Rattle.flash_calls.specs.Lookups.{value_in, buffered_at, buffered, plain, reading_away, reading_at, reading_of, found_of}
use Rattle.flash_calls.specs.Placed.{IsPlaced}
use Rattle.flash_calls.specs.Running.{IsRunning}
use Rattle.flash_calls.specs.Store.{Desk}
use Rattle.flash_calls.specs.Sweeps.{sweep}
use Rattle.flash_calls.specs.declared.found.Found.{Found}
use Rattle.flash_calls.specs.declared.found.Found.TheVariants as found
use Rattle.flash_calls.proofs.Commanding.{IsSwept, sweep_sweeps, after_sweep}
use Rattle.flash_calls.proofs.Looking.{IsHidden, of_true, is_read}
use Rattle.flash_calls.proofs.Values.{value_is}

-- a hidden value has as many bytes
as_long : (label : Option Label) (value : List ℕ) → length (hidden_value label value) ≡ length value
as_long None value = refl
as_long (Some label) value = length-replicate (length value) 0

-- no item is hidden in none
none_of : (live : Option Item) → option_map hidden live ≡ None → live ≡ None
none_of None is = refl
none_of (Some item) is = absurd (cc is)

module _ (lives : EachLiveItemIsHidden) (reads : EachRecordIsRead) (g : Geometry) (h : List Entry) (c : Cache) (desk : Desk) (was : IsRunning g h c desk) (id : Id) (key : List ℕ) (look : Look) (is_swept : IsSwept h c key) where
  -- the run's own cache, whose values are all known
  abbrev own : Cache
  own = cache_of g h

  same_heads : (item : Item) → head_of_item c look (hidden item) ≡ head_of_item own look item
  same_heads item =
      (λ j. record (head_of_item c look item) { size = as_long item.label item.value j })
      ∙ ap (λ (d : Cache). head_of_item d look item) was.run.same

  module _ (head : Item) (there : finite.get c.items key ≡ Some head) where
    abbrev it : IsHidden (live_item h own key) head
    it = of_true lives reads g h c desk was id key look is_swept head there

    abbrev told : Head
    told = head_of_item c look head

    told_is : told ≡ head_of_item own look it.item
    told_is = ap (head_of_item c look) (sym it.same) ∙ same_heads it.item

    -- a hit has the live item's value
    abbrev hit : Found
    hit = found.Here (record { head = head_of_item own look it.item; value = it.item.value })

    -- which is in memory
    value_here : head.label ≡ None → head.value ≡ it.item.value
    value_here bare = ap (λ (i : Item). i.value) (sym it.same) ∙ ap (λ (l : Option Label). hidden_value l it.item.value) (ap (λ (i : Item). i.label) it.same ∙ bare)

    -- or in a buffer
    away_by : (label : Label) → head.label ≡ Some label → (place : Option Place) → finite.get desk.places key ≡ place → IsPlaced key (Some head) place
        → (reading_away id head told (buffered_at desk.blocks.buffers (length key) place)).answer ≡ hit
    away_by label labelled None at is = absurd (cc (sym labelled ∙ is))
    away_by label labelled (Some place) at is =
        ap (λ (read : Option (List ℕ)). (reading_away id head told (option_map (λ bytes. record { place = place; value = value_in (length key) bytes }) read)).answer)
        (is_read lives reads g h c desk was id key look is_swept head there place at)
        ∙ (λ j. found.Here (record { head = told_is j; value = value_is (parts_of key it.item place) j }))

    label_by : (label : Option Label) → head.label ≡ label → (reading_at id head told label (buffered desk key)).answer ≡ hit
    label_by None bare = λ j. found.Here (record { head = told_is j; value = value_here bare j })
    label_by (Some label) labelled =
        away_by label labelled (finite.get desk.places key) refl
        (subst (λ (found : Option Item). IsPlaced key found (finite.get desk.places key)) there (was.placed key))

    wants_by : (wants : Bool) → (if wants then reading_at id head told head.label (buffered desk key) else plain (found.Head told)).answer
        ≡ (if wants then hit else found.Head (head_of_item own look it.item))
    wants_by true = label_by head.label refl
    wants_by false = λ j. found.Head (told_is j)

  tells : (live : Option Item) → finite.get c.items key ≡ live → (reading_of c desk id key look live).answer ≡ found_of own look (live_item h own key)
  tells None there =
      ap (found_of own look)
      (sym (none_of (live_item h own key) (sym (lives h own key) ∙ ap (λ (d : Cache). live_item h d key) (sym was.run.same) ∙ is_swept ∙ there)))
  tells (Some head) there = wants_by head there look.value ∙ ap (found_of own look) (sym (it head there).there)

module _ (below : Below) where
  pub look_tells : EachLookupTells
  look_tells g c h desk id key look was =
      let s = sweep c desk key in
      let is = sweep_sweeps below g h c desk was key in
      let now = after_sweep below g h c desk was key in
      tells below.heads.live below.blocks.read g (h ++ s.entries) s.cache s.desk now id key look is.live (finite.get s.cache.items key) refl
