use Rattle.flash_calls.specs.Calls.{store_command}
use Rattle.flash_calls.proofs.Commanding.{command_runs, store_follows}
use Rattle.flash_calls.proofs.laws.each_store_goes_on.Goals as goal

pub returns : goal.returns
returns c = λ g cache h desk id put is new. command_runs c.laws_below.ensures g (store_command g put) put.key (store_follows g put) h cache desk id is new
