-- The finite maps that the slots of a table stand for.
use Rattle.std.specs.Prelude.{ℕ, List}
use Rattle.std.specs.Ordering.{nat_cmp}
use Rattle.std.specs.Cmp.Lexicographic.{slice_cmp}
use Rattle.std.specs.FinMap.{FinMap, from_entries}
use Rattle.flash_keys.specs.Classes.{Classes}
use Rattle.flash_table.specs.declared.entry.Entry.{Entry}
use Rattle.flash_table.specs.Held.{key_and_item, id_and_key}
use Rattle.flash_table.specs.Pairs.{pairs}

-- each key's item
abbrev pub Items : Type 0
Items = FinMap (slice_cmp nat_cmp) ℕ

-- each id's key
abbrev pub Keys : Type 0
Keys = FinMap nat_cmp (List ℕ)

-- the items of the keys in these slots
unfoldable pub items_in : Classes → List Entry → Items
items_in store es = from_entries (pairs (key_and_item store) es)

-- the keys of the ids in these slots
unfoldable pub keys_in : Classes → List Entry → Keys
keys_in store es = from_entries (pairs (id_and_key store) es)
