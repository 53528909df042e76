use Rattle.std.proofs.Common.{ℕ, List, ◌++◌, take, drop, ◌∙◌, ap, append_assoc}
use Rattle.std.proofs.lemmas.List.{take-append-drop}
use Rattle.flash_session.proofs.laws.a_send_goes_on.Goals as goal

pub returns : goal.returns
returns c = λ bytes told gone s n stands. record {
  done = stands.done;
  before = stands.before;
  here = stands.here;
  told_is = stands.told_is;
  reads = stands.reads;
  held = stands.held;
  whole = stands.whole;
  step = stands.step;
  going = stands.going;
  started = stands.started;
  owed = stands.owed;
  last = stands.last;
  replies = append_assoc gone (take n s.out) (drop n s.out) ∙ ap (λ (out : List ℕ). gone ++ out) (take-append-drop n s.out) ∙ stands.replies;
}
