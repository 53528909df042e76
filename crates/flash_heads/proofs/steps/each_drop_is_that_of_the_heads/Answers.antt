use Rattle.flash_heads.proofs.Stepping.{dropped}
use Rattle.flash_heads.proofs.steps.each_drop_is_that_of_the_heads.Goals as goal

pub returns : goal.returns
returns c = dropped
