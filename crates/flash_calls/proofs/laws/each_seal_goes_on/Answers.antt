use Rattle.flash_calls.proofs.Sealing.{seal_runs}
use Rattle.flash_calls.proofs.laws.each_seal_goes_on.Goals as goal

pub returns : goal.returns
returns c = λ g cache h desk bucket is. seal_runs c.laws_below.ensures g h cache desk bucket is
