use Rattle.flash_answers.proofs.Staying.{in_order}
use Rattle.flash_answers.proofs.laws.outcomes_are_in_order.Goals as goal

pub returns : goal.returns
returns c = in_order
