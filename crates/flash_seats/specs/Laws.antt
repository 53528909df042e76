-- The numbers of a session's steps, and what the laws of sessions say together.
use Rattle.std.specs.Prelude.{◌≡◌, ℕ}
use Rattle.flash_commands.specs.Laws.{MoreBytesGoOn, AnEndStays}
use Rattle.flash_session.specs.Laws.{AFeedGoesOn, ASendGoesOn, AnAnswerGoesOn, AnAskIsTheNextStep, StepsAreCounted, StepsComeInOrder, AllIsSaid}
use Rattle.flash_session.specs.PieceLaws.{PiecesAreTheReplies, ANextPieceStays, AnAnswerHoldsAPiece, NoPieceIsNextAtAnAsk}
use Rattle.flash_play.specs.Playing.{Seat, number_after}
use Rattle.flash_seats.specs.declared.seat.Seat as code
use Rattle.flash_seats.specs.Seats.{IsSeat}
use Rattle.flash_seats.specs.Turns.{next_id}

-- the next number of a session is that after the steps that it was told
abbrev pub ASeatHasTheNextNumber : Type 0
ASeatHasTheNextNumber = (item_max number : ℕ) (seat : Seat) (code : code.Seat) → IsSeat item_max number seat code
    → next_id code ≡ number_after number seat.told

-- what the laws of sessions say
pub record SessionLaws : Type 0 where
  pub feed : AFeedGoesOn
  pub send : ASendGoesOn
  pub answer : AnAnswerGoesOn
  pub step : AnAskIsTheNextStep
  pub counted : StepsAreCounted
  pub order : StepsComeInOrder
  pub said : AllIsSaid
  pub piece : ANextPieceStays
  pub told : AnAnswerHoldsAPiece
  pub none : NoPieceIsNextAtAnAsk
  pub pieces : PiecesAreTheReplies
  pub more : MoreBytesGoOn
  pub stays : AnEndStays
