-- How `Items` joins the table, the entries and the lists. No public clause cites this module.
use Rattle.std.specs.Prelude.{◌≡◌, ℕ, ◌+◌, ◌≤◌, ◌&&◌, nat_lt, ◌↔◌, List, [], ◌∷◌, length, Option, None, Some, IsSome, unwrap_or, if◌then◌else◌}
use Rattle.std.specs.FinMap.{get, from_entries}
use Rattle.slab.specs.Slab.{Slab, slab_len}
use Rattle.slab.specs.Slab.{get as slot_at}
use Rattle.flash_names.specs.declared.place.ItemId.{ItemId}
use Rattle.flash_lru.specs.Lists.{SegmentLists, HasCard}
use Rattle.flash_table.specs.Table.{TableState}
use Rattle.flash_table.specs.Maps.{Keys}
use Rattle.flash_items.specs.declared.item.Item.{Item}
use Rattle.flash_items.specs.declared.item.Entry.{Entry}
use Rattle.flash_items.specs.Item.{with_key}
use Rattle.flash_items.specs.ItemsState.{ItemMap, ItemsState, AreSized}

-- the item of an entry
abbrev pub item_of : Keys → Entry → Item
item_of keys entry = with_key (unwrap_or (get keys entry.key.number) []) entry.parts

-- the items of these slots, each with its number, where the first slot has this number
abbrev pub items_from : Keys → ℕ → List (Option Entry) → List (ℕ × Item)
items_from keys number [] = []
items_from keys number (None ∷ slots) = items_from keys (number + 1) slots
items_from keys number (Some entry ∷ slots) = (number, item_of keys entry) ∷ items_from keys (number + 1) slots

-- the items of the entries
abbrev pub items_in : Keys → List (Option Entry) → ItemMap
items_in keys slots = from_entries (items_from keys 0 slots)

-- 1 where the table, the slab and the lists have room for one item more
abbrev pub spare_of : TableState → Slab Entry → SegmentLists → ℕ
spare_of t entries lists =
    if nat_lt 0 t.spare && nat_lt (slab_len entries) entries.capacity
    && nat_lt entries.vacant_key lists.spare then 1 else 0

-- what a contract sees
abbrev pub state_of : TableState → Slab Entry → SegmentLists → ItemsState
state_of t entries lists = record {
  ids = t.map;
  items = items_in t.keys entries.slots;
  lists = lists;
  spare = spare_of t entries lists;
}

-- the entry has this key in the table, under this number
pub record IsNamed (t : TableState) (number : ℕ) (entry : Entry) (key : List ℕ) : Type 0 where
  pub name : get t.keys entry.key.number ≡ Some key
  pub found : get t.map key ≡ Some number
  pub short : length key ≤ 250

-- each entry has a key, each key an entry, each entry a card, and each card the size of its item
pub record IsJoined (t : TableState) (entries : Slab Entry) (lists : SegmentLists) : Type 0 where
  pub named : (number : ℕ) (entry : Entry) → slot_at entries number ≡ Some entry
      → (key : List ℕ) × IsNamed t number entry key
  pub kept : (key : List ℕ) (number : ℕ) → get t.map key ≡ Some number
      → (entry : Entry) × (slot_at entries number ≡ Some entry) × (get t.keys entry.key.number ≡ Some key)
  pub carded : (id : ItemId) → HasCard lists id ↔ IsSome (slot_at entries id.key)
  pub hot : AreSized (items_in t.keys entries.slots) lists.hot
  pub warm : AreSized (items_in t.keys entries.slots) lists.warm
  pub cold : AreSized (items_in t.keys entries.slots) lists.cold
