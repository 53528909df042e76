use Rattle.flash_answers.proofs.Staying.{is_added}
use Rattle.flash_answers.proofs.laws.each_answer_is_added.Goals as goal

pub returns : goal.returns
returns c = is_added c.each_ask_is_told.ensures
