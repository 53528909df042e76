use Rattle.flash_heads.proofs.Stepping.{looks}
use Rattle.flash_heads.proofs.steps.each_lookup_is_that_of_the_heads.Goals as goal

pub returns : goal.returns
returns c = looks
