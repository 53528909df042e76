use Rattle.std.proofs.Common.{◌≡◌, ◌≤◌}
use Rattle.std.specs.Arc.{arc_value}
use Rattle.flash_core.specs.SharedStore.{geometry_of, told_of}
use Rattle.flash_turn.specs.Passes.{IsPassOf, seen}
use Rattle.flash_serve.specs.Serving.{count_after}
use Rattle.flash_serve.proofs.serve.accept_some.Given as goal

-- the pass is one of the lock and has seen what it had, the count of faults didn't fall, and the connections that are to
-- come make the count that is wanted
abbrev pub invariant-connections : goal.invariant-connections
invariant-connections g l =
    IsPassOf geometry_of (arc_value l.store) l.pass
    × (seen told_of l.pass ≡ seen told_of l.fn.pass)
    × (g.M.Maker.faults l.fn.maker ≤ g.M.Maker.faults l.maker)
    × (count_after l.left (g.M.Maker.connections l.maker) ≡ count_after l.limit (g.M.Maker.connections l.fn.maker))

abbrev pub decreases-connections : goal.decreases-connections
decreases-connections g l = l.left
