use Rattle.flash_answers.proofs.Numbering.{stay_new}
use Rattle.flash_answers.proofs.laws.numbers_stay_new.Goals as goal

pub returns : goal.returns
returns c = stay_new
