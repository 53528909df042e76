use Rattle.flash_heads.proofs.Stepping.{deleted}
use Rattle.flash_heads.proofs.steps.each_delete_is_that_of_the_heads.Goals as goal

pub returns : goal.returns
returns c = deleted
