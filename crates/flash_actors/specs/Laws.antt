-- What the laws of sessions and of the journal's steps say together.
use Rattle.flash_answers.specs.Laws.{OutcomesAreInOrder, ANewStepHasNoEntry, OutcomesStay, NumbersStayNew}
use Rattle.flash_commands.specs.Laws.{MoreBytesGoOn, AnEndStays}
use Rattle.flash_session.specs.Laws.{ANewSessionStandsForNothing, AFeedGoesOn, ASendGoesOn, AnAnswerGoesOn}
use Rattle.flash_session.specs.Laws.{AnAskIsTheNextStep, StepsAreCounted, AllIsSaid}

pub record SessionLaws : Type 0 where
  pub first : ANewSessionStandsForNothing
  pub feed : AFeedGoesOn
  pub send : ASendGoesOn
  pub answer : AnAnswerGoesOn
  pub step : AnAskIsTheNextStep
  pub counted : StepsAreCounted
  pub said : AllIsSaid
  pub more : MoreBytesGoOn
  pub stays : AnEndStays
  pub order : OutcomesAreInOrder
  pub none : ANewStepHasNoEntry
  pub outcomes : OutcomesStay
  pub numbers : NumbersStayNew
