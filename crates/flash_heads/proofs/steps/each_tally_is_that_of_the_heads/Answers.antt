use Rattle.flash_heads.proofs.Keeping.{tallied}
use Rattle.flash_heads.proofs.steps.each_tally_is_that_of_the_heads.Goals as goal

pub returns : goal.returns
returns c = tallied
