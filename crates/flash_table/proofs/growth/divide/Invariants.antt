use Rattle.std.proofs.Common.{◌≡◌, ◌≤◌, ℕ}
use Rattle.flash_table.specs.Chains.{chain_of}
use Rattle.flash_table.specs.Entries.{entry_at}
use Rattle.flash_table.proofs.Dividing.{IsDividing}
use Rattle.flash_table.proofs.growth.divide.Given as goal

-- the slots so far are looked at, and the others are as they were
abbrev pub invariant-slots : goal.invariant-slots
invariant-slots l = (l.next ≤ l.slot) × IsDividing l.keys l.fn.chains.items l.chains.items l.last l.from l.slot l.next × ((i : ℕ) → l.slot ≤ i → entry_at (chain_of l.chains.items l.from) i ≡ entry_at (chain_of l.fn.chains.items l.from) i)
