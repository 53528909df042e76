-- What the heads of a cache have of it.
use Rattle.std.specs.Prelude.{◌≡◌, ◌↔◌, ℕ, List, map, length, None, Some}
use Rattle.std.specs.Option.{option_map}
use Rattle.std.specs.FinMap as finite
use Rattle.flash_machine.specs.Item.{Item}
use Rattle.flash_machine.specs.Cache.{Cache, Items, first_cache}
use Rattle.flash_machine.specs.Load.{bytes_here, item_load, load_of}
use Rattle.flash_machine.specs.Rising.{AreNumbered, AreApart}
use Rattle.flash_heads.specs.Heads.{hidden, hidden_items, heads}

-- the item is in memory
abbrev pub IsInMemory : Item → Type 0
IsInMemory item = item.label ≡ None

-- each item is in memory
abbrev pub AreInMemory : Items → Type 0
AreInMemory items = (key : List ℕ) (item : Item) → finite.get items key ≡ Some item → IsInMemory item

-- an item in memory is known as it is
abbrev pub AnItemInMemoryIsKnown : Type 0
AnItemInMemoryIsKnown = (item : Item) → IsInMemory item → hidden item ≡ item

-- the value keeps its length, and the item its load
pub record KeepsItsSize (item : Item) : Type 0 where
  pub size : length (hidden item).value ≡ length item.value
  pub here : bytes_here (hidden item) ≡ bytes_here item
  pub load : (key : List ℕ) → item_load key (hidden item) ≡ item_load key item

-- each item keeps its size
abbrev pub EachItemKeepsItsSize : Type 0
EachItemKeepsItsSize = (item : Item) → KeepsItsSize item

-- hiding an item's value again changes nothing
abbrev pub AnItemIsHiddenOnce : Type 0
AnItemIsHiddenOnce = (item : Item) → hidden (hidden item) ≡ hidden item

-- under each key the heads have the hidden item
abbrev pub EachKeyHasItsHead : Type 0
EachKeyHasItsHead =
    (c : Cache) (key : List ℕ) → finite.get (heads c).items key ≡ option_map hidden (finite.get c.items key)

-- the key has an item with this head
pub record IsHeadOf (items : Items) (key : List ℕ) (head : Item) : Type 0 where
  pub item : Item
  pub there : finite.get items key ≡ Some item
  pub same : hidden item ≡ head

-- what the heads have under a key is the head of an item
abbrev pub EachHeadIsOfAnItem : Type 0
EachHeadIsOfAnItem =
    (c : Cache) (key : List ℕ) (head : Item) → finite.get (heads c).items key ≡ Some head → IsHeadOf c.items key head

-- the entries of the heads are those of the cache, in their order, with the items hidden
abbrev pub EachEntryHasItsHead : Type 0
EachEntryHasItsHead =
    (c : Cache)
    → finite.entries (heads c).items ≡ map (λ entry. (entry.0, hidden entry.1)) (finite.entries c.items)

-- an item that is put under its key is hidden there
abbrev pub EachPutIsHidden : Type 0
EachPutIsHidden =
    (items : Items) (key : List ℕ) (item : Item)
    → hidden_items (finite.insert items key item) ≡ finite.insert (hidden_items items) key (hidden item)

-- an item that is taken out is taken out of the hidden ones
abbrev pub EachRemovalIsHidden : Type 0
EachRemovalIsHidden =
    (items : Items) (key : List ℕ)
    → hidden_items (finite.remove items key) ≡ finite.remove (hidden_items items) key

-- the heads have as many items, the same load, and the cache's other fields
pub record KeepsItsNumbers (c : Cache) : Type 0 where
  pub items : finite.len (heads c).items ≡ finite.len c.items
  pub load : load_of (heads c).items ≡ load_of c.items
  pub others : heads c ≡ record c { items = (heads c).items }

-- each cache keeps its numbers
abbrev pub EachCacheKeepsItsNumbers : Type 0
EachCacheKeepsItsNumbers = (c : Cache) → KeepsItsNumbers c

-- where each item is in memory, the heads are the cache
abbrev pub ACacheInMemoryIsKnown : Type 0
ACacheInMemoryIsKnown = (c : Cache) → AreInMemory c.items → heads c ≡ c

-- the heads of heads are the heads
abbrev pub ACacheIsHiddenOnce : Type 0
ACacheIsHiddenOnce = (c : Cache) → heads (heads c) ≡ heads c

-- the first cache is its own heads
abbrev pub TheFirstCacheIsKnown : Type 0
TheFirstCacheIsKnown = heads first_cache ≡ first_cache

-- the heads' items have CAS numbers of their own, each from 1 up to this one, where the cache's have
pub record KeepsItsCasNumbers (c : Cache) : Type 0 where
  pub apart : AreApart (heads c).items ↔ AreApart c.items
  pub numbered : (last : ℕ) → AreNumbered last (heads c).items ↔ AreNumbered last c.items

-- each cache keeps its items' CAS numbers
abbrev pub EachCacheKeepsItsCasNumbers : Type 0
EachCacheKeepsItsCasNumbers = (c : Cache) → KeepsItsCasNumbers c
