use Rattle.flash_heads.proofs.Stepping.{touched}
use Rattle.flash_heads.proofs.steps.each_touch_is_that_of_the_heads.Goals as goal

pub returns : goal.returns
returns c = touched
