use Rattle.flash_heads.proofs.Entering.{runs}
use Rattle.flash_heads.proofs.entries.each_run_is_that_of_the_heads.Goals as goal

pub returns : goal.returns
returns c = runs
