use Rattle.std.proofs.Common.{[], refl, arith}
use Rattle.flash_session.proofs.laws.a_new_session_stands_for_nothing.Goals as goal

pub returns : goal.returns
returns c = λ pass item_max. record {
  done = [];
  before = [];
  here = [];
  told_is = refl;
  reads = refl;
  held = λ some. absurd (omega (arith, some));
  whole = refl;
  step = refl;
  going = tt;
  started = λ some. absurd (omega (arith, some));
  owed = λ owes. absurd (cc owes);
  last = refl;
  replies = refl;
}
