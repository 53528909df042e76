use Rattle.std.proofs.Common.{rules, ◌≡◌, [], Option, Some, sym, ◌∙◌, ap, subst}
use Rattle.std.specs.Prelude.{slice_get}
use Rattle.flash_text.specs.Said.{Said}
use Rattle.flash_reply.specs.declared.command.Command.TheVariants.{Text}
use Rattle.flash_commands.specs.Asks.{asks_of}
use Rattle.flash_session.specs.contracts.session.Session.{the_view}
use Rattle.flash_session.specs.declared.lookup.Lookup.{Lookup}
use Rattle.flash_session.specs.Lookups.{IsKept, IsAtFront, rest_said}
use Rattle.flash_session.specs.States.{Session, front_now, ask_at}
use Rattle.flash_session.proofs.Lookups.{asked_next}
use Rattle.flash_session.proofs.session.Session.go_on.Goals as goal

pub ask-requires-clause-next : goal.ask-requires-clause-next
ask-requires-clause-next c =
    let f = c.self.inside in
    let keys = f.keys.items in
    let lookup = c.in-Some.lookup in
    let at : IsAtFront f.reader f.step lookup keys = subst (λ (kept : Option Lookup). IsKept f.reader f.step kept keys) c.in-Some.is c.self.invariant in
    let short : c.rest.result ≡ rest_said lookup keys = c.rest.ensures ∙ ap (rest_said lookup) c.deref.ensures.value in
    let some : c.in_ok-ask_at.field-0 ≡ Some c.in_ok-ask.ask = search rules in
    let first : slice_get (asks_of (Text (rest_said lookup keys)) []) 0 ≡ Some c.in_ok-ask.ask =
    ap (λ (said : Said). slice_get (asks_of (Text said) []) 0) (sym short) ∙ sym c.in_ok-ask_at.ensures ∙ some in
    subst (λ (s : Session). ask_at s.step (front_now s) ≡ Some c.in_ok-ask.ask) c.self.view_is
    (sym (asked_next c.a_lookup_asks_at_each_key.ensures (the_view f) lookup keys at []) ∙ first)
