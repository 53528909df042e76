use Rattle.flash_answers.proofs.Recorded.{records_itself}
use Rattle.flash_answers.proofs.laws.each_ask_records_itself.Goals as goal

pub returns : goal.returns
returns c = records_itself
