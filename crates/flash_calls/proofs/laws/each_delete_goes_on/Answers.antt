use Rattle.flash_calls.specs.Calls.{delete_command}
use Rattle.flash_calls.proofs.Commanding.{command_runs, delete_follows}
use Rattle.flash_calls.proofs.laws.each_delete_goes_on.Goals as goal

pub returns : goal.returns
returns c = λ g cache h desk id key compare is new. command_runs c.laws_below.ensures g (delete_command key compare) key (delete_follows key compare g) h cache desk id is new
