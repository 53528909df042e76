-- The items that are seen, key by key.
use Rattle.std.proofs.Common.{◌≡◌, ℕ, Bool, true, false, cond, List, [], ◌∷◌, map, Option, Some, None, is_some, option_map, refl, sym, ◌∙◌, ap}
use Rattle.std.specs.Option.{option_and_then}
use Rattle.std.specs.Ordering.{eq_by_cmp}
use Rattle.std.specs.Cmp.Lexicographic.{nat_list_cmp_total}
use Rattle.std.specs.FinMap as finite
use Rattle.flash_names.specs.declared.place.ItemId.{ItemId}
use Rattle.flash_items.specs.declared.item.Body.{Body}
use Rattle.flash_items.specs.declared.item.Body.TheVariants.{Here, Away}
use Rattle.flash_items.specs.declared.item.Item.{Item}
use Rattle.flash_items.specs.Item.{bytes_here, item_size}
use Rattle.flash_items.specs.ItemsState.{ItemMap, Ids, ItemsState}
use Rattle.std.specs.Prelude.{◌+◌, length, is_none}
use Rattle.flash_machine.specs.Item as machine
use Rattle.flash_machine.specs.Load.{item_load}
use Rattle.flash_index.specs.Known.{known_item, known_value, label_of}
use Rattle.flash_index.specs.Seen.{known_or, items_seen}
use Rattle.flash_index.proofs.Lookups.{order, put_here, put_else, cut_here, cut_else}
use Rattle.flash_index.proofs.SeenMaps.{OnlyKey, same_by, none_by, put_by, cut_by}

-- the item of a number, as it is known
abbrev pub known_at : ItemMap → ℕ → machine.Item
known_at items n = known_or (finite.get items n)

find_step : (items : ItemMap) (b : Bool) (n : ℕ) (rest : Option machine.Item) (found : Option ℕ) → rest ≡ option_map (known_at items) found
    → cond b (Some (known_at items n)) rest ≡ option_map (known_at items) (cond b (Some n) found)
find_step items true n rest found is = refl
find_step items false n rest found is = is

find_seen : (items : ItemMap) (q : List ℕ) (es : List (List ℕ × ℕ)) → finite.find order q (map (λ (e : List ℕ × ℕ). (e.0, known_at items e.1)) es) ≡ option_map (known_at items) (finite.find order q es)
find_seen items q [] = refl
find_seen items q (e ∷ es) = find_step items (eq_by_cmp order q e.0) e.1 (finite.find order q (map (λ (e : List ℕ × ℕ). (e.0, known_at items e.1)) es)) (finite.find order q es) (find_seen items q es)

-- a key has the item of its id
pub get_seen : (s : ItemsState) (key : List ℕ) → finite.get (items_seen s) key ≡ option_map (known_at s.items) (finite.get s.ids key)
unfolding items_seen
get_seen s key =
    finite.get-from_entries nat_list_cmp_total (map (λ (e : List ℕ × ℕ). (e.0, known_at s.items e.1)) (finite.entries s.ids)) key
    ∙ find_seen s.items key (finite.entries s.ids) ∙ ap (option_map (known_at s.items)) (sym (finite.get-entries s.ids key))

pub get_named : (s : ItemsState) (n : ℕ) (key : List ℕ) (item : Item) → finite.get s.ids key ≡ Some n → finite.get s.items n ≡ Some item → finite.get (items_seen s) key ≡ Some (known_item item)
get_named s n key item named at = get_seen s key ∙ ap (option_map (known_at s.items)) named ∙ ap (λ o. Some (known_or o)) at

pub is_some_mapped : {X Y : Type 0} (f : X → Y) (o : Option X) → is_some (option_map f o) ≡ is_some o
is_some_mapped f None = refl
is_some_mapped f (Some x) = refl

-- a key has an item where it has an id
pub is_there : (s : ItemsState) (key : List ℕ) → is_some (finite.get (items_seen s) key) ≡ is_some (finite.get s.ids key)
is_there s key = ap (λ (o : Option machine.Item). is_some o) (get_seen s key) ∙ is_some_mapped (known_at s.items) (finite.get s.ids key)

items_at : (s : ItemsState) (key : List ℕ) → finite.get (items_seen s) key ≡ option_and_then (λ n. Some (known_or (finite.get s.items n))) (finite.get s.ids key)
items_at s key = get_seen s key ∙ and_then (finite.get s.ids key) where
  and_then : (o : Option ℕ) → option_map (known_at s.items) o ≡ option_and_then (λ n. Some (known_or (finite.get s.items n))) o
  and_then None = refl
  and_then (Some n) = refl

-- an item of an id, as it is known
abbrev some_known : Option Item → Option machine.Item
some_known o = Some (known_or o)

pub same_seen : (a b : ItemsState) → a.ids ≡ b.ids → a.items ≡ b.items → items_seen a ≡ items_seen b
same_seen = same_by items_seen some_known items_at

pub none_seen : (s : ItemsState) → s.ids ≡ finite.empty → items_seen s ≡ finite.empty
none_seen = none_by items_seen some_known items_at

module _ (s t : ItemsState) (id : ItemId) (key : List ℕ) where
  -- an item is put under its key
  pub seen_put : (item : Item) → OnlyKey s id key → t.items ≡ finite.insert s.items id.key item → finite.get t.ids key ≡ Some id.key → ((q : List ℕ) → (q ≡ key → ⊥) → finite.get t.ids q ≡ finite.get s.ids q) → items_seen t ≡ finite.insert (items_seen s) key (known_item item)
  seen_put item only items named ids =
      put_by items_seen some_known items_at s t id key item (finite.insert (items_seen s) key (known_item item)) only items named ids
      (put_here (items_seen s) key (known_item item)) (put_else (items_seen s) key (known_item item))

  -- the item of a key is taken out
  pub seen_cut : OnlyKey s id key → t.items ≡ finite.remove s.items id.key → t.ids ≡ finite.remove s.ids key → items_seen t ≡ finite.remove (items_seen s) key
  seen_cut only items ids =
      cut_by items_seen some_known items_at s t id key (finite.remove (items_seen s) key) only items ids
      (cut_here (items_seen s) key) (cut_else (items_seen s) key)

value_known : (key_length : ℕ) (body : Body) → cond (is_none (label_of body)) (length (known_value key_length body)) 0 ≡ bytes_here body
value_known key_length (Here value) = refl
value_known key_length (Away place) = refl

-- the load of an item is its size
pub load_known : (item : Item) → item_load item.key (known_item item) ≡ item_size item
load_known item = ap (λ n. 64 + length item.key + n) (value_known (length item.key) item.body)
