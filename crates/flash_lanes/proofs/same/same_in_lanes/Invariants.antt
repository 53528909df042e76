use Rattle.std.proofs.Common.{◌≡◌, ◌≤◌, ◌-◌, length, drop}
use Rattle.flash_lanes.proofs.same.same_in_lanes.Given as goal

-- what is left decides
abbrev pub invariant-halves : goal.invariant-halves
invariant-halves l = (l.at ≤ length l.a) × (drop l.at l.a ≡ drop l.at l.b → l.a ≡ l.b)

abbrev pub decreases-halves : goal.decreases-halves
decreases-halves l = length l.a - l.at
