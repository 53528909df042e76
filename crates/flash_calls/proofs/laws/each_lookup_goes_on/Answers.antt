use Rattle.flash_calls.proofs.Looking.{look_runs}
use Rattle.flash_calls.proofs.laws.each_lookup_goes_on.Goals as goal

pub returns : goal.returns
returns c = λ g cache h desk id key look is new. look_runs c.laws_below.ensures g h cache desk id key look is new
