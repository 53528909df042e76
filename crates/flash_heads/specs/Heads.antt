-- The heads of a cache: what a store knows of it, where the value of an item that has a label is on flash.
use Rattle.std.specs.Prelude.{ℕ, List, map, length, replicate, Option, None, Some}
use Rattle.std.specs.FinMap as finite
use Rattle.flash_names.specs.declared.place.Label.{Label}
use Rattle.flash_machine.specs.Item.{Item}
use Rattle.flash_machine.specs.Cache.{Cache, Items}

-- the value as it is known: its bytes, or as many zeros as it has bytes where a page has it
abbrev pub hidden_value : Option Label → List ℕ → List ℕ
hidden_value None value = value
hidden_value (Some label) value = replicate (length value) 0

-- the item with that value: its head
abbrev pub hidden : Item → Item
hidden item = record item { value = hidden_value item.label item.value }

-- the heads of the items under their keys
unfoldable pub hidden_items : Items → Items
hidden_items items = finite.from_sorted (map (λ entry. (entry.0, hidden entry.1)) (finite.entries items))

-- the cache with the heads of its items, which is all that a store knows of it
abbrev pub heads : Cache → Cache
heads c = record c { items = hidden_items c.items }
