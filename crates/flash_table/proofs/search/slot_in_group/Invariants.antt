use Rattle.std.proofs.Common.{◌<◌, ℕ}
use Rattle.flash_table.specs.Entries.{entry_at, IsFor}
use Rattle.flash_table.proofs.search.slot_in_group.Given as goal

-- no slot so far is for the key
abbrev pub invariant-slots : goal.invariant-slots
invariant-slots l = (i : ℕ) → i < l.slot → IsFor l.keys l.tag l.key (entry_at l.group i) → ⊥
