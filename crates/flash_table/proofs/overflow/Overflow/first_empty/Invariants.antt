use Rattle.std.proofs.Common.{◌≡◌, ◌<◌, ◌*◌, ℕ}
use Rattle.flash_table.specs.Entries.{entry_at}
use Rattle.flash_table.specs.Flat.{flat}
use Rattle.flash_table.proofs.overflow.Overflow.first_empty.Given as goal

-- no slot of the groups so far is empty
abbrev pub invariant-groups : goal.invariant-groups
invariant-groups l = (i : ℕ) → i < l.number * 16 → (entry_at (flat l.group-items) i).tag ≡ 0 → ⊥
