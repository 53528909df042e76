use Rattle.std.proofs.Common.{◌≡◌, ℕ, ◌+◌, ◌*◌, length}
use Rattle.flash_table.specs.Entries.{entry_at, vacant}
use Rattle.flash_table.proofs.growth.empty_chain.Given as goal

-- the groups so far are empty
abbrev pub invariant-groups : goal.invariant-groups
invariant-groups l = (length l.chain ≡ l.group * 16 + 16) × ((i : ℕ) → entry_at l.chain i ≡ vacant)
