-- What the index sees of the items: keys in place of ids. No public clause cites this module.
use Rattle.std.specs.Prelude.{ℕ, false, List, [], ◌∷◌, map, Option, None, Some}
use Rattle.std.specs.FinMap as finite
use Rattle.flash_names.specs.declared.place.Place.{Place}
use Rattle.flash_lru.specs.Lists.{SegmentLists}
use Rattle.flash_lru.specs.declared.card.Card.{Card}
use Rattle.flash_items.specs.declared.item.Item.{Item}
use Rattle.flash_items.specs.ItemsState.{ItemMap, ItemsState}
use Rattle.flash_machine.specs.Item as machine
use Rattle.flash_machine.specs.Cache.{Items}
use Rattle.flash_index.specs.Known.{known_item}
use Rattle.flash_index.specs.Places.{Places, place_of, with_place}
use Rattle.flash_index.specs.KeyLists.{KeyCard, KeyLists}
use Rattle.flash_index.specs.IndexState.{IndexState}

-- an item that isn't there, in place of one
abbrev pub no_item : machine.Item
no_item = record {
  value = [];
  flags = 0;
  cas = 0;
  deadline = None;
  fetched = false;
  access = 0;
  label = None;
}

-- the item that an id has, as it is known
abbrev pub known_or : Option Item → machine.Item
known_or None = no_item
known_or (Some item) = known_item item

-- the key of the item that an id has
abbrev pub key_or : Option Item → List ℕ
key_or None = []
key_or (Some item) = item.key

-- each key's item
unfoldable pub items_seen : ItemsState → Items
items_seen s =
    finite.from_entries (map (λ entry. (entry.0, known_or (finite.get s.items entry.1))) (finite.entries s.ids))

-- the place of the value of the item that an id has
abbrev pub place_or : Option Item → Option Place
place_or None = None
place_or (Some item) = place_of item.body

-- the places of the values of these keys' items, by the ids that the keys have
abbrev pub places_from : ItemMap → List (List ℕ × ℕ) → Places
places_from items [] = finite.empty
places_from items (entry ∷ entries) =
    with_place entry.0 (place_or (finite.get items entry.1)) (places_from items entries)

-- the place of each key's value that is on flash
unfoldable pub places_seen : ItemsState → Places
places_seen s = places_from s.items (finite.entries s.ids)

-- a card, by its item's key
abbrev pub card_seen : ItemMap → Card → KeyCard
card_seen items card =
    record { key = key_or (finite.get items card.item.key); size = card.size; active = card.active }

-- the three lists, by the items' keys
abbrev pub lists_seen : ItemMap → SegmentLists → KeyLists
lists_seen items lists = record {
  hot = map (card_seen items) lists.hot;
  warm = map (card_seen items) lists.warm;
  cold = map (card_seen items) lists.cold;
}

-- what a contract sees
abbrev pub seen : ItemsState → IndexState
seen s = record {
  items = items_seen s;
  places = places_seen s;
  lists = lists_seen s.items s.lists;
  memory = s.lists.memory;
  ids = s.ids;
  spare = s.spare;
}
