use Rattle.flash_heads.proofs.Stepping.{flush}
use Rattle.flash_heads.proofs.steps.each_flush_is_that_of_the_heads.Goals as goal

pub returns : goal.returns
returns c = flush
