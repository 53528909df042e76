use Rattle.flash_answers.proofs.Noting.{notes_itself}
use Rattle.flash_answers.proofs.laws.each_ask_notes_itself.Goals as goal

pub returns : goal.returns
returns c = notes_itself c.each_lookup_tells.ensures
