use Rattle.flash_calls.proofs.Timing.{flush_runs}
use Rattle.flash_calls.proofs.laws.each_flush_goes_on.Goals as goal

pub returns : goal.returns
returns c = λ g cache h desk id delay is new. flush_runs c.laws_below.ensures g h cache desk is id delay new
