use Rattle.std.proofs.Common.{◌≡◌, Option, refl, sym, ap, subst, arith}
use Rattle.std.specs.Prelude.{IsSome}
use Rattle.flash_entry.specs.declared.ask.Ask.{Ask}
use Rattle.flash_session.specs.Stands.{one_if}
use Rattle.flash_session.proofs.laws.an_ask_goes_on.Goals as goal

pub returns : goal.returns
returns c = λ bytes told gone s ask free is stands. record {
  done = stands.done;
  before = stands.before;
  here = stands.here;
  told_is = stands.told_is;
  reads = stands.reads;
  held = stands.held;
  whole = stands.whole;
  step = stands.step;
  going = stands.going;
  started = stands.started;
  owed = λ owes. subst (λ (found : Option Ask). IsSome found) (sym is) refl;
  last = let counted = stands.last in let none : one_if s.owed ≡ 0 = ap one_if free in omega (arith, counted, none);
  replies = stands.replies;
}
