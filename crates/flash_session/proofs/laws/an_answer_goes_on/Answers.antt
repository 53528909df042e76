use Rattle.std.proofs.Common.{refl}
use Rattle.flash_session.specs.States.{front_now}
use Rattle.flash_session.proofs.Answering.{answered}
use Rattle.flash_session.proofs.Resting.{asked_none_skipped}
use Rattle.flash_session.proofs.laws.an_answer_goes_on.Goals as goal

pub returns : goal.returns
returns c = λ bytes told gone s answer owes stands.
    answered bytes told gone s stands (asked_none_skipped bytes told gone s stands (stands.owed owes)) owes answer (front_now s) refl
