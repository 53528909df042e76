use Rattle.std.proofs.Common.{refl}
use Rattle.flash_session.specs.States.{front_now}
use Rattle.flash_session.proofs.Resting.{asked_none_skipped}
use Rattle.flash_session.proofs.HoldingPieces.{told_piece}
use Rattle.flash_session.proofs.laws.an_answer_holds_a_piece.Goals as goal

pub returns : goal.returns
returns c = λ bytes told gone s answer empty owes stands.
    told_piece bytes told gone s stands (asked_none_skipped bytes told gone s stands (stands.owed owes)) empty (front_now s) answer refl (stands.owed owes)
