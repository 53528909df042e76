use Rattle.flash_machine.proofs.OrderlyRuns.{run_is_orderly}
use Rattle.flash_machine.proofs.orderly.every_run_is_orderly.Goals as goal

pub returns : goal.returns
returns c = λ g h run. run_is_orderly g h run
