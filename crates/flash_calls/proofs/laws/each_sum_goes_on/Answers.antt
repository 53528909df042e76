use Rattle.flash_calls.specs.Calls.{sum_command}
use Rattle.flash_calls.proofs.Commanding.{command_runs, sum_follows}
use Rattle.flash_calls.proofs.laws.each_sum_goes_on.Goals as goal

pub returns : goal.returns
returns c = λ g cache h desk id ask is new. command_runs c.laws_below.ensures g (sum_command ask) ask.key (sum_follows g ask) h cache desk id is new
