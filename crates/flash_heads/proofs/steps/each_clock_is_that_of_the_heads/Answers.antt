use Rattle.flash_heads.proofs.Stepping.{clocked}
use Rattle.flash_heads.proofs.steps.each_clock_is_that_of_the_heads.Goals as goal

pub returns : goal.returns
returns c = clocked
