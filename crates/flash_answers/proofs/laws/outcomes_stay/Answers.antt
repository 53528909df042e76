use Rattle.flash_answers.proofs.Staying.{outcomes_stay}
use Rattle.flash_answers.proofs.laws.outcomes_stay.Goals as goal

pub returns : goal.returns
returns c = outcomes_stay
