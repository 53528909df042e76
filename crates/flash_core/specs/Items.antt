-- What a store keeps of each of its items.
use Rattle.std.specs.Prelude.{◌≡◌, ℕ, ◌^◌, ◌<◌, ◌≤◌, List, length, max, Option, Some, IfSome, option_map}
use Rattle.std.specs.FinMap.{get}
use Rattle.flash_items.specs.declared.item.Parts.{Parts}
use Rattle.flash_machine.specs.Item.{Item}
use Rattle.flash_machine.specs.Cache.{Items}
use Rattle.flash_index.specs.Known.{known_parts, known_value}

-- a deadline, where there is one, is below 2^63
abbrev pub HasDeadline : Option ℕ → Type 0
HasDeadline deadline = IfSome deadline (λ moment. moment < 2 ^ 63)

-- a key has 1 to 250 bytes
pub record IsKey (key : List ℕ) : Type 0 where
  pub some : 1 ≤ length key
  pub fits : length key ≤ 250

-- a key's item has a CAS number from 1 up to the last one, a deadline below 2^63, and a value that is no longer than it
-- may be, or than the digits of a number
pub record IsKept (item_max last : ℕ) (key : List ℕ) (item : Item) : Type 0 where
  pub named : IsKey key
  pub some : 1 ≤ item.cas
  pub number : item.cas ≤ last
  pub deadline : HasDeadline item.deadline
  pub size : length item.value ≤ max item_max 20

-- each item is kept so
abbrev pub AreKept : ℕ → ℕ → Items → Type 0
AreKept item_max last items =
    (key : List ℕ) (item : Item) → get items key ≡ Some item → IsKept item_max last key item

-- each key that has an item is one
abbrev pub AreKeys : Items → Type 0
AreKeys items = (key : List ℕ) (item : Item) → get items key ≡ Some item → IsKey key

-- an item's parts under the key, where there are some, as they are known
abbrev pub known_live : List ℕ → Option Parts → Option Item
known_live key live = option_map (λ parts. known_parts (length key) parts) live

-- what is told of an item needs a deadline below 2^63, and a value below 4 GiB
pub record IsShown (key_length : ℕ) (parts : Parts) : Type 0 where
  pub deadline : HasDeadline parts.deadline
  pub size : length (known_value key_length parts.body) < 2 ^ 32
