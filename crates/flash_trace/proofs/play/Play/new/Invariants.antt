use Rattle.std.proofs.Common.{◌≡◌, None, replicate}
use Rattle.flash_trace.proofs.play.Play.new.Given as goal

abbrev pub invariant-seats : goal.invariant-seats
invariant-seats l = l.seats.items ≡ replicate l.counter None
