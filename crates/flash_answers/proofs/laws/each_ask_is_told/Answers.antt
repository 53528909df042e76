use Rattle.flash_answers.proofs.Telling.{is_told}
use Rattle.flash_answers.proofs.laws.each_ask_is_told.Goals as goal

pub returns : goal.returns
returns c = is_told c.each_lookup_tells.ensures
