use Rattle.std.proofs.Common.{Option, ◌++◌, refl, sym, subst}
use Rattle.std.specs.Prelude.{IsSome}
use Rattle.flash_entry.specs.declared.ask.Ask.{Ask}
use Rattle.flash_commands.specs.Parts.{Front}
use Rattle.flash_session.specs.States.{front_now, ask_at}
use Rattle.flash_session.proofs.Feeding.{after, stays, feeds}
use Rattle.flash_session.proofs.Resting.{asked_none_skipped}
use Rattle.flash_session.proofs.HoldingPieces.{none_at_an_ask}
use Rattle.flash_session.proofs.laws.no_piece_is_next_at_an_ask.Goals as goal

pub returns : goal.returns
returns c = λ bytes more told gone s ask empty is stands.
    let some = subst (λ (found : Option Ask). IsSome found) (sym is) refl in
    let longer = after bytes more told gone s stands in
    let stands_longer = feeds bytes more told gone s stands in
    let there = subst (λ (f : Front). IsSome (ask_at s.step f)) (sym (stays bytes more told gone s stands some)) some in
    none_at_an_ask (bytes ++ more) told gone longer stands_longer (asked_none_skipped (bytes ++ more) told gone longer stands_longer there) empty (front_now longer) refl there
