-- What the calls make of the items.
use Rattle.std.specs.Prelude.{◌≡◌, ℕ, Bool, Option}
use Rattle.std.specs.FinMap.{insert, remove}
use Rattle.flash_names.specs.declared.place.ItemId.{ItemId}
use Rattle.flash_lru.specs.declared.segment.Segment.TheVariants.{Hot}
use Rattle.flash_lru.specs.Lists.{SegmentLists}
use Rattle.flash_lru.specs.Moves.{moved, removed, resized}
use Rattle.flash_items.specs.declared.item.Body.{Body}
use Rattle.flash_items.specs.declared.item.Item.{Item}
use Rattle.flash_items.specs.Item.{item_size}
use Rattle.flash_items.specs.ItemsState.{ItemsState}

-- the items are changed under this id alone, and the ids of keys and the lists are these
abbrev pub with_item : ItemId → Item → SegmentLists → ItemsState → ItemsState
with_item id item lists s = record s { items = insert s.items id.key item; lists = lists }

-- the item has another body
abbrev pub with_body : Item → Body → Item
with_body item body = record item { body = body }

-- the item has another deadline, mark and moment of use
abbrev pub with_use : Item → Option ℕ → Bool → ℕ → Item
with_use item deadline fetched access = record item { deadline = deadline; fetched = fetched; access = access }

-- after the item got another body
abbrev pub body_set : ItemId → Item → Body → ItemsState → ItemsState
body_set id item body s = with_item id (with_body item body) (resized id (item_size (with_body item body)) s.lists) s

-- after the item got another deadline, mark and moment of use
abbrev pub use_set : ItemId → Item → Option ℕ → Bool → ℕ → ItemsState → ItemsState
use_set id item deadline fetched access s = with_item id (with_use item deadline fetched access) s.lists s

-- the item is put at HOT's front
abbrev pub at_front : ItemId → Item → ItemsState → SegmentLists
at_front id item s = moved Hot id (item_size item) s.lists

-- after an item was added under a new id
pub record IsAdded (old new : ItemsState) (id : ItemId) (item : Item) : Type 0 where
  pub ids : new.ids ≡ insert old.ids item.key id.key
  pub items : new.items ≡ insert old.items id.key item
  pub lists : new.lists ≡ at_front id item old

-- after the item of an id was taken out
pub record IsTaken (old new : ItemsState) (id : ItemId) (item : Item) : Type 0 where
  pub ids : new.ids ≡ remove old.ids item.key
  pub items : new.items ≡ remove old.items id.key
  pub lists : new.lists ≡ removed id old.lists

-- after another item was put in the place of the one with this id
abbrev pub replaced : ItemId → Item → ItemsState → ItemsState
replaced id item s = with_item id item (at_front id item s) s

-- the lists are these
abbrev pub with_lists : SegmentLists → ItemsState → ItemsState
with_lists lists s = record s { lists = lists }
