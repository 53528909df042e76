use Rattle.std.proofs.Common.{◌≡◌, ◌≤◌}
use Rattle.std.specs.Arc.{arc_value}
use Rattle.flash_core.specs.SharedStore.{geometry_of, told_of}
use Rattle.flash_turn.specs.Passes.{IsPassOf, seen}
use Rattle.flash_serve.proofs.serve.accept_forever.Given as goal

-- the pass is one of the lock and has seen what it had, and the count of faults didn't fall
abbrev pub invariant-connections : goal.invariant-connections
invariant-connections g l =
    IsPassOf geometry_of (arc_value l.store) l.pass
    × (seen told_of l.pass ≡ seen told_of l.fn.pass)
    × (g.M.Maker.faults l.fn.maker ≤ g.M.Maker.faults l.maker)
