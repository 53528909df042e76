use Rattle.flash_heads.proofs.Stepping.{summed}
use Rattle.flash_heads.proofs.steps.each_sum_is_that_of_the_heads.Goals as goal

pub returns : goal.returns
returns c = summed
