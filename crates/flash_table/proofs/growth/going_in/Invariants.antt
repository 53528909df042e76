use Rattle.std.proofs.Common.{◌≡◌, ◌+◌, ◌≤◌, take, drop}
use Rattle.flash_table.specs.Growth.{going, going_of}
use Rattle.flash_table.proofs.growth.going_in.Given as goal

-- the slots that are left complete the count, and those so far are marked
abbrev pub invariant-going : goal.invariant-going
invariant-going l = (l.count ≤ l.slot) × (l.count + going l.keys l.homes l.home (drop l.slot l.chain) ≡ going l.keys l.homes l.home l.chain) × (l.slots.items ≡ going_of l.keys l.homes l.home (take l.slot l.chain))
