use Rattle.flash_heads.proofs.Ruling.{answers}
use Rattle.flash_heads.proofs.rules.each_answer_is_that_of_the_heads.Goals as goal

pub returns : goal.returns
returns c = answers
