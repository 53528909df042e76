use Rattle.std.proofs.Common.{◌<◌, ◌*◌, ℕ}
use Rattle.flash_table.specs.Entries.{entry_at, IsFor}
use Rattle.flash_table.specs.Flat.{flat}
use Rattle.flash_table.proofs.overflow.Overflow.slot_of.Given as goal

-- no slot of the groups so far is for the key
abbrev pub invariant-chain : goal.invariant-chain
invariant-chain l = (i : ℕ) → i < l.number * 16 → IsFor l.keys l.tag l.key (entry_at (flat l.group-items) i) → ⊥
