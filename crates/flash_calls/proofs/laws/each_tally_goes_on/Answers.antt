use Rattle.flash_calls.proofs.Timing.{tally_runs}
use Rattle.flash_calls.proofs.laws.each_tally_goes_on.Goals as goal

pub returns : goal.returns
returns c = λ g cache h desk id is new. tally_runs c.laws_below.ensures g h cache desk is id new
