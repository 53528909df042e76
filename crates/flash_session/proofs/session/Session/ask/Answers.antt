use Rattle.std.proofs.Common.{rules, ◌≡◌, ◌+◌, true, Some, sym, subst}
use Rattle.flash_session.specs.contracts.session.Session.{the_view}
use Rattle.flash_session.specs.declared.todo.Todo.TheVariants.{Do}
use Rattle.flash_session.specs.States.{Session, front_now, ask_at}
use Rattle.flash_session.specs.Todos.{IsFree, Needs}
use Rattle.flash_session.proofs.ReadingOn.{asks_on}
use Rattle.flash_session.proofs.session.Session.ask.Goals as goal

pub returns : goal.returns
returns c =
    let s = the_view c.self.inside in
    let seq = c.in-Some.seq in
    let free : IsFree s = subst IsFree (sym c.self.view_is) c.requires.free in
    let next : ask_at s.step (front_now s) ≡ Some c.args.ask = subst (λ (s : Session). ask_at s.step (front_now s) ≡ Some c.args.ask) (sym c.self.view_is) c.requires.next in
    let more : seq ≡ s.last + 1 = search rules in
    subst (λ (old : Session). Needs old (Do (record { pass = s.pass; seq = seq }) c.args.ask) (record s { owed = true; last = seq })) c.self.view_is
    (asks_on s c.args.ask seq c.an_ask_goes_on.ensures free next more)
