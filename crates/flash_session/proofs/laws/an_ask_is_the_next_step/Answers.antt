use Rattle.std.proofs.Common.{Option, refl, sym, subst}
use Rattle.std.specs.Prelude.{IsSome}
use Rattle.flash_entry.specs.declared.ask.Ask.{Ask}
use Rattle.flash_session.specs.States.{front_now}
use Rattle.flash_session.proofs.Asking.{next_asked}
use Rattle.flash_session.proofs.Resting.{asked_none_skipped}
use Rattle.flash_session.proofs.laws.an_ask_is_the_next_step.Goals as goal

pub returns : goal.returns
returns c = λ bytes told gone s ask is stands.
    let none = asked_none_skipped bytes told gone s stands (subst (λ (found : Option Ask). IsSome found) (sym is) refl) in
    next_asked bytes told gone s ask stands none (front_now s) refl is
