use Rattle.flash_answers.proofs.Asking.{asks_are_kept}
use Rattle.flash_answers.proofs.laws.asks_are_kept.Goals as goal

pub returns : goal.returns
returns c = asks_are_kept
