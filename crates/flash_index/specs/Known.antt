-- What an index knows of an item.
use Rattle.std.specs.Prelude.{ℕ, ◌+◌, ◌-◌, List, length, replicate, Option, None, Some}
use Rattle.flash_names.specs.declared.place.Label.{Label}
use Rattle.flash_items.specs.declared.item.Body.{Body}
use Rattle.flash_items.specs.declared.item.Body.TheVariants.{Here, Away}
use Rattle.flash_items.specs.declared.item.Item.{Item}
use Rattle.flash_items.specs.declared.item.Parts.{Parts}
use Rattle.flash_items.specs.Item.{parts_of}
use Rattle.flash_machine.specs.Item as machine

-- the value as it is known: its bytes, or as many zeros as it has bytes where they are in a record on flash, which has
-- 32 bytes beside the key and the value
abbrev pub known_value : ℕ → Body → List ℕ
known_value key_length (Here value) = value
known_value key_length (Away place) = replicate (place.length - (32 + key_length)) 0

-- the page that has the value's record, where it is on flash
abbrev pub label_of : Body → Option Label
label_of (Here value) = None
label_of (Away place) = Some place.label

-- the item with these parts under a key of so many bytes
abbrev pub known_parts : ℕ → Parts → machine.Item
known_parts key_length parts = record {
  value = known_value key_length parts.body;
  flags = parts.flags;
  cas = parts.cas;
  deadline = parts.deadline;
  fetched = parts.fetched;
  access = parts.access;
  label = label_of parts.body;
}

-- the item
abbrev pub known_item : Item → machine.Item
known_item item = known_parts (length item.key) (parts_of item)
