-- The places that are seen, key by key.
use Rattle.std.proofs.Common.{◌≡◌, ℕ, Bool, true, false, cond, List, [], ◌∷◌, Option, Some, None, refl, sym, ◌∙◌, ap}
use Rattle.std.specs.Option.{option_and_then}
use Rattle.std.specs.Ordering.{eq_by_cmp}
use Rattle.std.specs.Cmp.Lexicographic.{nat_list_cmp_total}
use Rattle.std.specs.FinMap as finite
use Rattle.flash_names.specs.declared.place.ItemId.{ItemId}
use Rattle.flash_names.specs.declared.place.Place.{Place}
use Rattle.flash_items.specs.declared.item.Item.{Item}
use Rattle.flash_items.specs.ItemsState.{ItemMap, ItemsState}
use Rattle.flash_index.specs.Places.{Places, place_of, with_place}
use Rattle.flash_index.specs.Seen.{place_or, places_from, places_seen}
use Rattle.flash_index.proofs.Lookups.{order, put_here, put_else, cut_here, cut_else}
use Rattle.flash_index.proofs.SeenMaps.{OnlyKey, at_by, same_by, none_by, put_by, cut_by}

pub with_here : (key : List ℕ) (place : Option Place) (places : Places) → finite.get (with_place key place places) key ≡ place
with_here key None places = cut_here places key
with_here key (Some place) places = put_here places key place

pub with_else : (key : List ℕ) (place : Option Place) (places : Places) (q : List ℕ) → (q ≡ key → ⊥) → finite.get (with_place key place places) q ≡ finite.get places q
with_else key None places q apart = cut_else places key q apart
with_else key (Some place) places q apart = put_else places key place q apart

get_with : (key : List ℕ) (place : Option Place) (places : Places) (q : List ℕ) → finite.get (with_place key place places) q ≡ cond (eq_by_cmp order q key) place (finite.get places q)
get_with key None places q = finite.get-remove nat_list_cmp_total places key q
get_with key (Some place) places q = finite.get-insert nat_list_cmp_total places key place q

get_step : (items : ItemMap) (b : Bool) (n : ℕ) (rest : Option Place) (found : Option ℕ) → rest ≡ option_and_then (λ m. place_or (finite.get items m)) found
    → cond b (place_or (finite.get items n)) rest ≡ option_and_then (λ m. place_or (finite.get items m)) (cond b (Some n) found)
get_step items true n rest found is = refl
get_step items false n rest found is = is

get_from : (items : ItemMap) (q : List ℕ) (es : List (List ℕ × ℕ)) → finite.get (places_from items es) q ≡ option_and_then (λ n. place_or (finite.get items n)) (finite.find order q es)
get_from items q [] = finite.get-empty order q
get_from items q (e ∷ es) =
    get_with e.0 (place_or (finite.get items e.1)) (places_from items es) q
    ∙ get_step items (eq_by_cmp order q e.0) e.1 (finite.get (places_from items es) q) (finite.find order q es) (get_from items q es)

-- a key has the place of its id's item
place_at : (s : ItemsState) (key : List ℕ) → finite.get (places_seen s) key ≡ option_and_then (λ n. place_or (finite.get s.items n)) (finite.get s.ids key)
unfolding places_seen
place_at s key =
    get_from s.items key (finite.entries s.ids)
    ∙ ap (option_and_then (λ n. place_or (finite.get s.items n))) (sym (finite.get-entries s.ids key))

pub place_named : (s : ItemsState) (n : ℕ) (key : List ℕ) (item : Item) → finite.get s.ids key ≡ Some n → finite.get s.items n ≡ Some item → finite.get (places_seen s) key ≡ place_of item.body
place_named s n key item named at = at_by places_seen place_or place_at s n key named ∙ ap place_or at

pub same_places : (a b : ItemsState) → a.ids ≡ b.ids → a.items ≡ b.items → places_seen a ≡ places_seen b
same_places = same_by places_seen place_or place_at

pub no_places : (s : ItemsState) → s.ids ≡ finite.empty → places_seen s ≡ finite.empty
no_places = none_by places_seen place_or place_at

module _ (s t : ItemsState) (id : ItemId) (key : List ℕ) where
  -- an item is put under its key
  pub places_put : (item : Item) → OnlyKey s id key → t.items ≡ finite.insert s.items id.key item → finite.get t.ids key ≡ Some id.key → ((q : List ℕ) → (q ≡ key → ⊥) → finite.get t.ids q ≡ finite.get s.ids q) → places_seen t ≡ with_place key (place_of item.body) (places_seen s)
  places_put item only items named ids =
      put_by places_seen place_or place_at s t id key item (with_place key (place_of item.body) (places_seen s)) only items named ids
      (with_here key (place_of item.body) (places_seen s)) (with_else key (place_of item.body) (places_seen s))

  -- an item changes, and its value stays where it is
  pub places_kept : (was item : Item) → OnlyKey s id key → finite.get s.items id.key ≡ Some was → item.body ≡ was.body → t.items ≡ finite.insert s.items id.key item → t.ids ≡ s.ids → finite.get s.ids key ≡ Some id.key → places_seen t ≡ places_seen s
  places_kept was item only at same items ids named =
      put_by places_seen place_or place_at s t id key item (places_seen s) only items (ap (λ m. finite.get m key) ids ∙ named) (λ q _. ap (λ m. finite.get m q) ids)
      (place_named s id.key key was named at ∙ ap place_of (sym same)) (λ q _. refl)

  -- the item of a key is taken out
  pub places_cut : OnlyKey s id key → t.items ≡ finite.remove s.items id.key → t.ids ≡ finite.remove s.ids key → places_seen t ≡ finite.remove (places_seen s) key
  places_cut only items ids =
      cut_by places_seen place_or place_at s t id key (finite.remove (places_seen s) key) only items ids
      (cut_here (places_seen s) key) (cut_else (places_seen s) key)
