-- What keeps the three lists those of the items' keys.
use Rattle.std.specs.Prelude.{◌≡◌, ℕ, List, None, Some, IsSome}
use Rattle.std.specs.FinMap.{get, insert, remove, empty}
use Rattle.flash_lru.specs.declared.segment.Segment.TheVariants.{Hot}
use Rattle.flash_machine.specs.Item.{Item}
use Rattle.flash_machine.specs.Cache.{Items}
use Rattle.flash_machine.specs.Load.{item_load, load_of}
use Rattle.flash_index.specs.KeyLists.{KeyLists, empty_lists, moved, removed, touched, resized}
use Rattle.flash_index.specs.KeyEnds.{last_key, last_out}
use Rattle.flash_index.specs.KeyJuggle.{bytes_of, next_move, with_move}
use Rattle.flash_index.specs.Listed.{IsListed}

-- no items have empty lists
abbrev pub NoItemsAreListed : Type 0
NoItemsAreListed = IsListed empty empty_lists

-- an item that is put under its key goes to HOT's front
abbrev pub EachPutIsListed : Type 0
EachPutIsListed =
    (items : Items) (lists : KeyLists) (key : List ℕ) (item : Item) → IsListed items lists
    → IsListed (insert items key item) (moved Hot key (item_load key item) lists)

-- an item that is taken out leaves the lists
abbrev pub EachRemovalIsListed : Type 0
EachRemovalIsListed =
    (items : Items) (lists : KeyLists) (key : List ℕ) → IsListed items lists
    → IsListed (remove items key) (removed key lists)

-- an item that changes and keeps its size stays where it is
abbrev pub EachChangeIsListed : Type 0
EachChangeIsListed =
    (items : Items) (lists : KeyLists) (key : List ℕ) (was now : Item) → IsListed items lists
    → get items key ≡ Some was → item_load key now ≡ item_load key was → IsListed (insert items key now) lists

-- an item that changes its size stays where it is, and its card has the size
abbrev pub EachResizeIsListed : Type 0
EachResizeIsListed =
    (items : Items) (lists : KeyLists) (key : List ℕ) (now : Item) → IsListed items lists → IsSome (get items key)
    → IsListed (insert items key now) (resized key (item_load key now) lists)

-- a card that becomes active stays where it is
abbrev pub EachUseIsListed : Type 0
EachUseIsListed =
    (items : Items) (lists : KeyLists) (key : List ℕ) → IsListed items lists → IsListed items (touched key lists)

-- a card that moves is in the lists once
abbrev pub EachMoveIsListed : Type 0
EachMoveIsListed =
    (items : Items) (lists : KeyLists) (memory : ℕ) → IsListed items lists
    → IsListed items (with_move (next_move memory lists) lists)

-- the load is the sum of the cards' sizes
abbrev pub TheLoadIsThatOfTheLists : Type 0
TheLoadIsThatOfTheLists = (items : Items) (lists : KeyLists) → IsListed items lists → load_of items ≡ bytes_of lists

-- the last key of a list has an item
abbrev pub EachLastHasAnItem : Type 0
EachLastHasAnItem =
    (items : Items) (lists : KeyLists) (key : List ℕ) → IsListed items lists
    → (last_key lists.hot ≡ Some key → IsSome (get items key))
    × (last_key lists.warm ≡ Some key → IsSome (get items key))
    × (last_key lists.cold ≡ Some key → IsSome (get items key))

-- where no item would leave memory next there is none
abbrev pub NoLastIsNoLoad : Type 0
NoLastIsNoLoad = (items : Items) (lists : KeyLists) → IsListed items lists → last_out lists ≡ None → load_of items ≡ 0
