-- What a pass is once it has joined another.
use Rattle.std.proofs.Common.{◌≡◌, ℕ, [], ◌++◌, List, sym, refl, ap, ◌∙◌, subst, Option, Some, None, Box, arith}
use Rattle.std.specs.Option.{option_and_then}
use Rattle.std.specs.Global.{Global}
use Rattle.atomic_table.specs.declared.shared.Seat.{Seat}
use Rattle.flash_names.specs.Shared.{Begins}
use Rattle.flash_turn.specs.declared.view.View.{View}
use Rattle.flash_turn.specs.declared.pass.Pass.{Pass}
use Rattle.flash_turn.specs.declared.turn.Turn.{Turn}
use Rattle.flash_turn.specs.Counts.{times}
use Rattle.flash_turn.specs.Steps.{Self, Compares, joined_view, with_longer}
use Rattle.flash_turn.specs.Passes.{view_of, seen, IsIdle, IsPassOf}
use Rattle.flash_turn.specs.Joining.{Joined}
use Rattle.flash_turn.proofs.Totals.{first_times, times-append}
use Rattle.flash_turn.proofs.Joining.{longer_seen}
use Rattle.flash_turn.proofs.Handed.{pass_of}

module _ {T E O F : Type 0} (story : T → Option (List E)) (own : T → List (ℕ × O)) (fixed : T → F) where
  abbrev compared : View T → View T → View T
  compared v w = record (joined_view v w) { seen = with_longer story v.seen w.seen; met = None }

  pub after_join : (turn : Turn T) (old other : Pass T) (seat : Seat (Option (Box T Global)) (View T)) (m : Self T Global) (r : ℕ) → IsPassOf fixed turn old → IsPassOf fixed turn other
      → seat.table_id ≡ turn.table.shared.table_id → m ≡ (joined_view (view_of old) (view_of other), old.seat.me.1) → Compares story own fixed m r seat.me
      → IsPassOf fixed turn (record { seat = seat; number = old.number }) × Joined story old other (record { seat = seat; number = old.number })
  after_join turn old other seat m r is-old is-other table is tells =
      let v : View T = view_of old in
      let w : View T = view_of other in
      let x : T = is-old.idle.last in
      let y : T = is-other.idle.last in
      let e : seat.me ≡ (compared v w, []) = tells.0 ∙ (ap (λ (q : Self T Global). (record q.0 { seen = with_longer story q.0.seen q.0.met; met = None }, q.1)) is ∙ ap (λ l. (compared v w, l)) is-old.slots) in
      let p = tells.1 x y (ap (λ q. q.0.seen) is ∙ is-old.idle.seen) (ap (λ q. q.0.met) is ∙ is-other.idle.seen) in
      let z : T = p.0 in
      let picked : with_longer story v.seen w.seen ≡ Some z = ap (λ (q : Self T Global). with_longer story q.0.seen q.0.met) (sym is) ∙ p.1 in
      let idle : IsIdle old.number (compared v w) = record {
        joined = is-old.idle.joined ++ w.numbers;
        numbers = ap (λ l. l ++ w.numbers) is-old.idle.numbers;
        pending = is-old.idle.pending;
        over = is-old.idle.over;
        ticket = is-old.idle.ticket;
        has = is-old.idle.has;
        met = refl;
        last = z;
        seen = picked;
      } in
      let new : Pass T = record { seat = seat; number = old.number } in
      let before : seen story old ≡ story x = ap (option_and_then story) is-old.idle.seen in
      let theirs : seen story other ≡ story y = ap (option_and_then story) is-other.idle.seen in
      let after : seen story new ≡ story z = ap (λ (q : Self T Global). option_and_then story q.0.seen) e ∙ ap (option_and_then story) picked in (
        pass_of fixed turn new (compared v w) table e idle (p.4 ∙ is-old.knows),
        record {
          number = refl;
          took = ap (λ (q : Self T Global). q.0.took) e;
          left = ap (λ (q : Self T Global). q.0.left) e;
          longer_seen = ap (λ (q : Self T Global). option_and_then story q.0.seen) e ∙ longer_seen story v.seen w.seen x y is-old.idle.seen is-other.idle.seen;
          begins_own = subst (λ s. Begins s (seen story new)) (sym before) (subst (λ s. Begins (story x) s) (sym after) p.2);
          begins_other = subst (λ s. Begins s (seen story new)) (sym theirs) (subst (λ s. Begins (story y) s) (sym after) p.3);
          apart = λ same. let few = tells.2 old.number in
              let all : times old.number m.0.numbers ≡ times old.number (v.numbers ++ w.numbers) = ap (λ (q : Self T Global). times old.number q.0.numbers) is in
              let both = times-append old.number v.numbers w.numbers in
              let one = first_times old.number v.numbers is-old.idle.joined is-old.idle.numbers in
              let other-one = first_times other.number w.numbers is-other.idle.joined is-other.idle.numbers in
              let as-one : times other.number w.numbers ≡ times old.number w.numbers = ap (λ k. times k w.numbers) (sym same) in absurd (omega arith);
        },
      )
