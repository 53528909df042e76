-- How much memory the items take, and the numbers that a store tells of itself.
use Rattle.std.specs.Prelude.{ℕ, ◌+◌, ◌^◌, ◌-◌, min, List, [], ◌∷◌, length, is_none, if◌then◌else◌}
use Rattle.std.specs.FinMap as map
use Rattle.flash_names.specs.declared.geometry.Geometry.{Geometry}
use Rattle.flash_entry.specs.declared.answer.Tally.{Tally}
use Rattle.flash_entry.specs.declared.entry.Entry.{Entry}
use Rattle.flash_machine.specs.Item.{Item}
use Rattle.flash_machine.specs.Cache.{Cache, Items}
use Rattle.flash_machine.specs.PageLabels.{free_pages}

-- the bytes of an item's value that are in memory
abbrev pub bytes_here : Item → ℕ
bytes_here item = if is_none item.label then length item.value else 0

-- what an item takes of the memory: 64 bytes, its key, and its value where that is in memory
abbrev pub item_load : List ℕ → Item → ℕ
item_load key item = 64 + length key + bytes_here item

-- the sum of what each entry counts
abbrev pub total : (List ℕ × Item → ℕ) → List (List ℕ × Item) → ℕ
total count [] = 0
total count (entry ∷ rest) = count entry + total count rest

-- what all items take of the memory, in bytes
abbrev pub load_of : Items → ℕ
load_of items = total (λ entry. item_load entry.0 entry.1) (map.entries items)

-- the numbers of a store; a load above 2^64 - 1 counts as that
abbrev pub tally_of : Geometry → List Entry → Cache → Tally
tally_of g journal c = record {
  items = map.len c.items;
  load = min (load_of c.items) (2 ^ 64 - 1);
  last_cas = c.last_cas;
  now = c.now;
  free_pages = free_pages g journal;
}
