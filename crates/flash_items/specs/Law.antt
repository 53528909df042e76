-- What is true of the items at all times.
use Rattle.std.specs.Prelude.{◌≡◌, ℕ, ◌≤◌, List, Some, ◌↔◌}
use Rattle.std.specs.FinMap.{get}
use Rattle.flash_names.specs.declared.place.ItemId.{ItemId}
use Rattle.flash_lru.specs.Lists.{cards_of, HasCard}
use Rattle.flash_items.specs.declared.item.Item.{Item}
use Rattle.flash_items.specs.ItemsState.{AreSized, ItemsState, HasItem}

-- a key's id has the item of that key, and an item's key has its id
pub record IsInStep (s : ItemsState) : Type 0 where
  pub item_found : (key : List ℕ) (number : ℕ) → get s.ids key ≡ Some number
      → (item : Item) × (get s.items number ≡ Some item) × (item.key ≡ key)
  pub key_found : (number : ℕ) (item : Item) → get s.items number ≡ Some item → get s.ids item.key ≡ Some number
  pub carded : (id : ItemId) → HasCard s.lists id ↔ HasItem s id
  pub sized : AreSized s.items s.lists.hot × AreSized s.items s.lists.warm × AreSized s.items s.lists.cold
  pub once : (id : ItemId) → cards_of id s.lists ≤ 1
