use Rattle.std.proofs.Common.{◌≡◌, refl, sym, ◌∙◌, ap, subst}
use Rattle.flash_commands.specs.Parts.{Takes, Rest}
use Rattle.flash_reader.specs.declared.front.Asked.{Asked}
use Rattle.flash_reader.specs.Fronts.{asked_said}
use Rattle.flash_reader.specs.Readers.{Reads}
use Rattle.flash_session.specs.contracts.session.Session.{the_view}
use Rattle.flash_session.specs.States.{Session, front_now}
use Rattle.flash_session.specs.Todos.{IsFree, Needs}
use Rattle.flash_session.proofs.Lookups.{kept_at}
use Rattle.flash_session.proofs.ReadingOn.{same_needs}
use Rattle.flash_session.proofs.session.Session.read_front.Goals.{then-self-eq0+in_ok-self-inside-in-Asks, else-self-eq0}
use Rattle.flash_session.proofs.session.Session.read_front.Goals as goal

-- where more bytes are needed
pub returns-in_default-clause-needs : goal.returns-in_default-clause-needs
returns-in_default-clause-needs c =
    let s = the_view c.self.inside in
    let free : IsFree s = subst IsFree (sym c.self.view_is) c.requires.free in
    let rests : front_now s ≡ Rest = sym c.in_default.ensures.front in
    let place : s.reads.reader.place ≡ c.place.result = sym (c.place.ensures ∙ ap (λ (reads : Reads). reads.reader.place) c.look.ensures) in
    let needs : Needs s c.rest_at.result s = same_needs s c.rest_at.result (c.rest_at.ensures.counted s) (c.rest_at.ensures.next s (record { free = free; rests = rests }) place) in
    subst (λ (reads : Reads). Needs c.args.self.now c.rest_at.result (record s { reads = reads })) (sym c.look.ensures)
    (subst (λ (old : Session). Needs old c.rest_at.result s) c.self.view_is needs)

pub invariant_of-self-then-self-eq0 : goal.invariant_of-self-then-self-eq0
invariant_of-self-then-self-eq0 c =
    let f = c.self.inside in
    let front = c.in-Some.front in
    kept_at f.reader f.step front.bytes c.in_ok-self-inside-in-Asks.field-0 c.keep_lookup.new.keys.items c.in-Asks.block.now c.in-Asks.command front.next
    c.if-self-eq0.true (c.in-Some.ensures.none_skipped refl)
    (sym c.in-Some.ensures.front ∙ ap (λ (asked : Asked). Takes (asked_said asked) front.bytes front.next) c.in-Asks.is)
    c.in_ok-self-inside-in-Asks.ensures.keeps

pub returns-then-has_step-clause-needs : goal.returns-then-has_step-clause-needs
returns-then-has_step-clause-needs c =
    let same : c.if-self-eq0.self ≡ c.args.self.now = elim c.if-self-eq0.branch [
      | then-self-eq0+in_ok-self-inside-in-Asks w ↦ w.self-is ∙ c.self.view_is
      | else-self-eq0 w ↦ w.self-is ∙ c.self.view_is
    ] in
    subst (λ (old : Session). Needs old c.ask.result c.ask.new.self) same c.ask.ensures
