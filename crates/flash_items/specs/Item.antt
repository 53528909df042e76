-- An item, and its size.
use Rattle.std.specs.Prelude.{ℕ, ◌+◌, ◌^◌, ◌<◌, List, length}
use Rattle.flash_items.specs.declared.item.Body.{Body}
use Rattle.flash_items.specs.declared.item.Body.TheVariants.{Here, Away}
use Rattle.flash_items.specs.declared.item.Item.{Item}
use Rattle.flash_items.specs.declared.item.Parts.{Parts}

-- the bytes of a value that is in memory
abbrev pub bytes_here : Body → ℕ
bytes_here (Here value) = length value
bytes_here (Away place) = 0

-- the size of an item in bytes: 64, its key's bytes, and its value's where it is in memory
abbrev pub size_of : ℕ → Body → ℕ
size_of key_length body = 64 + key_length + bytes_here body

-- a value that is in memory has fewer than 2^31 bytes
abbrev pub IsSmall : Body → Type 0
IsSmall body = bytes_here body < 2 ^ 31

-- an item's size
abbrev pub item_size : Item → ℕ
item_size item = size_of (length item.key) item.body

-- the item with this key and these parts
abbrev pub with_key : List ℕ → Parts → Item
with_key key parts = record {
  key = key;
  flags = parts.flags;
  cas = parts.cas;
  deadline = parts.deadline;
  fetched = parts.fetched;
  access = parts.access;
  body = parts.body;
}

-- what an item has beside its key
abbrev pub parts_of : Item → Parts
parts_of item = record {
  flags = item.flags;
  fetched = item.fetched;
  cas = item.cas;
  deadline = item.deadline;
  access = item.access;
  body = item.body;
}
