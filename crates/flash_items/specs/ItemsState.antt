-- What a contract sees of `Items`.
use Rattle.std.specs.Prelude.{◌≡◌, ℕ, List, [], ◌∷◌, Option, Some, IsSome, option_map}
use Rattle.std.specs.Ordering.{nat_cmp}
use Rattle.std.specs.Cmp.Lexicographic.{slice_cmp}
use Rattle.std.specs.FinMap.{FinMap, get}
use Rattle.flash_names.specs.declared.place.ItemId.{ItemId}
use Rattle.flash_lru.specs.Lists.{SegmentLists}
use Rattle.flash_lru.specs.Juggle.{load_of as lists_load}
use Rattle.flash_lru.specs.declared.card.Card.{Card}
use Rattle.flash_items.specs.declared.item.Item.{Item}
use Rattle.flash_items.specs.Item.{item_size}

-- each key's id
abbrev pub Ids : Type 0
Ids = FinMap (slice_cmp nat_cmp) ℕ

-- each id's item
abbrev pub ItemMap : Type 0
ItemMap = FinMap nat_cmp Item

-- each key's id; each id's item; the lists of the items' cards; and how many items more are sure to take no memory
pub record ItemsState : Type 0 where
  pub ids : Ids
  pub items : ItemMap
  pub lists : SegmentLists
  pub spare : ℕ

-- the item of an id
abbrev pub item_at : ItemsState → ItemId → Option Item
item_at s id = get s.items id.key

-- there is an item of this id
abbrev pub HasItem : ItemsState → ItemId → Type 0
HasItem s id = IsSome (item_at s id)

-- the id has this item
abbrev pub IsAt : ItemsState → ItemId → Item → Type 0
IsAt s id item = item_at s id ≡ Some item

-- the sum of the items' sizes
abbrev pub load_of : ItemsState → ℕ
load_of s = lists_load s.lists

-- the size of the item of a number
abbrev pub size_at : ItemMap → ℕ → Option ℕ
size_at items number = option_map item_size (get items number)

-- each card's item has the card's size
abbrev pub AreSized : ItemMap → List Card → Type 0
AreSized items [] = Unit {0}
AreSized items (card ∷ cards) = (size_at items card.item.key ≡ Some card.size) × AreSized items cards
