-- The steps by which a pass is split keep the rule.
use Rattle.std.proofs.Common.{◌≡◌, ℕ, ◌+◌, ◌-◌, ◌<◌, ◌++◌, ◌≤◌, ◌%◌, ◌^◌, List, [], ◌∷◌, set, sym, refl, ap, ◌∙◌, subst, arith, Option, Some, None, Box, cond, true, false, slice_index, slice_set, mod-eq_of_lt, lt_of_not-le, ⊎_elim}
use Rattle.std.specs.Option.{unwrap_or}
use Rattle.std.proofs.Math.Nat.{add-mod_right}
use mathlib.Core.Logic.{dite}
use native.Mathlib.Decide.{dec_le}
use mathlib.Core.Option.{some}
use lib.ListN.{get_elem?}
use Rattle.atomic_table.specs.Table.{State, Allows, Splits, keeps}
use Rattle.atomic_table.proofs.Lists.{at_snoc}
use Rattle.flash_names.specs.Shared.{own_of}
use Rattle.flash_turn.specs.declared.view.View.{View}
use Rattle.flash_turn.specs.Counts.{total, times, one_if_at, holds_value, given, claims, overs}
use Rattle.std.specs.List.{AllByRecursion}
use Rattle.flash_turn.specs.Numbered.{limit, IsPast, Numbered}
use Rattle.flash_turn.specs.Rule.{Knows, LockRule}
use Rattle.flash_turn.specs.Next.{IsNext}
use Rattle.flash_turn.specs.Steps.{Self, Numbers, PutsBack, split_left, split_right}
use Rattle.flash_turn.proofs.Totals.{each_counted, total-append, total_same, total_lt, term_le, at_here}
use Rattle.flash_turn.proofs.Lists.{each_set, each_of_all, all_both}
use Rattle.flash_turn.proofs.Queues.{queue_same, queue_more}
use Rattle.flash_turn.proofs.Numbers.{next_unused, next_small, numbered_draws, numbered_over, numbered_puts_back, numbered_splits}

-- a number that is past the next one is below it, where the next one is below the limit
below_past : (k n next : ℕ) → n < limit → next ≡ n → IsPast next k → k < n
below_past k n next low is past = dite (dec_le limit k)
    (λ high. let r = past.reached high in absurd (omega arith))
    (λ below. let b = past.below (lt_of_not-le below) in omega arith)

module _ {T E O F A : Type 0} (story : T → Option (List E)) (own : T → List (ℕ × O)) (fixed : T → F) where
  -- a step on word 2 alone
  renumbered : (s : State (Option (Box T A)) (View T)) (id : ℕ) (v w : View T) (words : List ℕ) (next : ℕ) (kept : LockRule story own fixed s) → get_elem? s.views id ≡ some v
      → words ≡ kept.drawn % 2 ^ 64 ∷ kept.served % 2 ^ 64 ∷ next ∷ [] → Numbered next (set s.views id w)
      → w.numbers ≡ v.numbers → w.ticket ≡ v.ticket → w.has ≡ v.has → Knows story own fixed kept.served kept.value w
      → LockRule story own fixed (record { words = words; homes = s.homes; views = set s.views id w })
  renumbered s id v w words next kept here is numbered numbers ticket has knows = record {
    drawn = kept.drawn;
    served = kept.served;
    next = next;
    value = kept.value;
    words = is;
    queue = queue_same kept.drawn kept.served s.views id v w here ticket kept.queue;
    numbered = numbered;
    home = λ nobody. kept.home (sym (total_same holds_value s.views id v w here (ap (λ b. cond b 1 0) has)) ∙ nobody);
    known = each_set (Knows story own fixed kept.served kept.value) (Knows story own fixed kept.served kept.value) s.views id w kept.known (λ j u other there ok. ok) knows;
    unknown = λ x nobody. kept.unknown x (sym (total_same (given x) s.views id v w here (ap (times x) numbers)) ∙ nobody);
  }

  next_is : (s : State (Option (Box T A)) (View T)) (id : ℕ) (v : View T) (kept : LockRule story own fixed s) → get_elem? s.views id ≡ some v → IsNext story own fixed A v (slice_index s.words 2)
  next_is s id v kept here = record {
    moment = s;
    kept = kept;
    seat = id;
    there = here;
    next = refl;
    unused = ap (λ k. total (claims k) s.views) (ap (λ l. slice_index l 2) kept.words) ∙ next_unused kept.next s.views id v v kept.numbered;
  }

  -- the next number, where it is below the limit, is above every number that the pass knows to be given
  pub all_below : (v : View T) (n : ℕ) → n < limit → IsNext story own fixed A v n → AllByRecursion (λ k. k < n) (v.numbers ++ v.draws)
  all_below v n low next =
      let kept = next.kept in
      let word : kept.next ≡ n = sym (ap (λ l. slice_index l 2) kept.words) ∙ next.next in
      all_both (λ k. k < n) v.numbers v.draws
      (each_counted (λ k. k < n) v.numbers (λ k some. let mine = term_le (claims k) next.moment.views next.seat v next.there in let d = kept.numbered.drawn k (omega arith) in let b = d.1 in omega arith))
      (each_of_all (IsPast kept.next) (λ k. k < n) (λ k past. below_past k n kept.next low word past) v.draws (kept.numbered.past next.seat v next.there))

  pub draws_number : (n id : ℕ) (v : View T) (c : List (ℕ × Option (Box T A))) → v.pending ≡ None → v.over ≡ false → Allows (LockRule story own fixed) n id (v, c) 2 (λ k. (k + 1) % 2 ^ 64) (Numbers story own fixed (v, c))
  draws_number n id v c none low s kept wide here fits =
      let knows = kept.known id v here in
      let small = next_small kept.next s.views id v v kept.numbered in
      let word : slice_index s.words 2 ≡ kept.next = ap (λ l. slice_index l 2) kept.words in
      let words = ap (λ l. slice_set l 2 ((slice_index l 2 + 1) % 2 ^ 64)) kept.words ∙ ap (λ k. kept.drawn % 2 ^ 64 ∷ kept.served % 2 ^ 64 ∷ k ∷ []) (mod-eq_of_lt (omega arith)) in
      dite (dec_le limit kept.next)
      (λ high. let w : View T = record v { over = true; draws = kept.next ∷ v.draws } in (
        w,
        keeps,
        tt,
        renumbered s id v w (slice_set s.words 2 ((slice_index s.words 2 + 1) % 2 ^ 64)) (kept.next + 1) kept here words (numbered_over kept.next s.views id v w here low refl refl refl refl high kept.numbered) refl refl refl
            (record { seen = knows.seen; met = knows.met; left = knows.left; out = knows.out }),
        ((λ small'. absurd (omega arith)), (λ _. ap (λ k. (record v { over = true; draws = k ∷ v.draws }, c)) (sym word)), next_is s id v kept here),
      ))
      (λ below. let w : View T = record v { pending = Some kept.next; draws = kept.next ∷ v.draws } in (
        w,
        keeps,
        tt,
        renumbered s id v w (slice_set s.words 2 ((slice_index s.words 2 + 1) % 2 ^ 64)) (kept.next + 1) kept here words (numbered_draws kept.next s.views id v w here none refl refl refl refl (lt_of_not-le below) kept.numbered) refl refl refl
            (record { seen = knows.seen; met = knows.met; left = knows.left; out = knows.out }),
        ((λ _. ap (λ k. (record v { pending = Some k; draws = k ∷ v.draws }, c)) (sym word)), (λ high. absurd (below (let h : limit ≤ kept.next = omega arith in h))), next_is s id v kept here),
      ))

  pub puts_back : (n id : ℕ) (v : View T) (c : List (ℕ × Option (Box T A))) → v.over ≡ true → Allows (LockRule story own fixed) n id (v, c) 2 (λ k. (k + (2 ^ 64 - 1)) % 2 ^ 64) (PutsBack (v, c))
  puts_back n id v c full s kept wide here fits =
      let knows = kept.known id v here in
      let small = next_small kept.next s.views id v v kept.numbered in
      let mine = term_le overs s.views id v here in
      let one : overs v ≡ 1 = ap (λ b. cond b 1 0) full in
      let exact = kept.numbered.exact (omega arith) in
      let before : ℕ = kept.next - 1 in
      let is : before + 1 ≡ kept.next = omega arith in
      let back : (kept.next + (2 ^ 64 - 1)) % 2 ^ 64 ≡ before = ap (λ k. k % 2 ^ 64) (let e : kept.next + (2 ^ 64 - 1) ≡ before + 2 ^ 64 = omega arith in e) ∙ (add-mod_right before (2 ^ 64) ∙ mod-eq_of_lt (omega arith)) in
      let words = ap (λ l. slice_set l 2 ((slice_index l 2 + (2 ^ 64 - 1)) % 2 ^ 64)) kept.words ∙ ap (λ k. kept.drawn % 2 ^ 64 ∷ kept.served % 2 ^ 64 ∷ k ∷ []) back in
      let w : View T = record v { over = false } in (
        w,
        keeps,
        tt,
        renumbered s id v w (slice_set s.words 2 ((slice_index s.words 2 + (2 ^ 64 - 1)) % 2 ^ 64)) before kept here words (numbered_puts_back kept.next s.views id v w before is here full refl refl refl refl kept.numbered) refl refl refl
            (record { seen = knows.seen; met = knows.met; left = knows.left; out = knows.out }),
        refl,
      )

  pub splits : (id : ℕ) (v : View T) (n : ℕ) → v.pending ≡ Some n → Splits {S = Option (Box T A)} (LockRule story own fixed) id v (split_left v) (split_right v)
  splits id v n pending s kept here =
      let left : View T = split_left v in
      let right : View T = split_right v in
      let number : right.numbers ≡ n ∷ [] = ap (λ o. unwrap_or o 0 ∷ []) pending in
      let knows = kept.known id v here in
      let held = λ (f : View T → ℕ). total-append f (set s.views id left) (right ∷ []) in
      let not-given : total (given n) s.views ≡ 0 =
      let mine : one_if_at n v.pending ≡ 1 = ap (one_if_at n) pending ∙ at_here n in
      let less = total_lt (given n) (claims n) s.views id v (λ j u there. omega arith) here (omega arith) in
      let one = kept.numbered.distinct n in omega arith in
      record {
        drawn = kept.drawn;
        served = kept.served;
        next = kept.next;
        value = kept.value;
        words = kept.words;
        queue = queue_more kept.drawn kept.served (set s.views id left) right refl (queue_same kept.drawn kept.served s.views id v left here refl kept.queue);
        numbered = numbered_splits kept.next s.views id v left n right here pending refl refl refl refl number refl refl refl kept.numbered;
        home = λ nobody. kept.home (let a = total_same holds_value s.views id v left here refl in let b = held holds_value in omega arith);
        known = λ j u there. ⊎_elim
            (λ old. each_set (Knows story own fixed kept.served kept.value) (Knows story own fixed kept.served kept.value) s.views id left kept.known (λ j u other there ok. ok)
            (record { seen = knows.seen; met = knows.met; left = knows.left; out = knows.out }) j u old)
            (λ (is : right ≡ u). subst (Knows story own fixed kept.served kept.value) is (record {
              seen = knows.seen;
              met = λ x e. absurd (cc e);
              left = λ m joined e. let same : n ≡ m = cc (number, e) in ap (λ k. own_of k (own kept.value)) (sym same) ∙ kept.unknown n not-given;
              out = λ e. absurd (cc e);
            }))
            (at_snoc (set s.views id left) right u j there);
        unknown = λ x nobody. kept.unknown x (let a = total_same (given x) s.views id v left here refl in let b = held (given x) in omega arith);
      }

  -- the same for what the code holds
  pub splits_from : (id : ℕ) (m : Self T A) (v : View T) (c : List (ℕ × Option (Box T A))) (n : ℕ) (drawn : List ℕ) → m ≡ (record v { pending = Some n; draws = drawn }, c) → Splits {S = Option (Box T A)} (LockRule story own fixed) id m.0 (split_left m.0) (split_right m.0)
  splits_from id m v c n drawn is = subst (λ (x : View T). Splits {S = Option (Box T A)} (LockRule story own fixed) id x (split_left x) (split_right x)) (sym (ap (λ x. x.0) is)) (splits id (record v { pending = Some n; draws = drawn }) n refl)

  pub puts_back_from : (slots id : ℕ) (m : Self T A) (v : View T) (c : List (ℕ × Option (Box T A))) (drawn : List ℕ) → m ≡ (record v { over = true; draws = drawn }, c) → Allows (LockRule story own fixed) slots id m 2 (λ k. (k + (2 ^ 64 - 1)) % 2 ^ 64) (PutsBack m)
  puts_back_from slots id m v c drawn is = subst (λ (x : Self T A). Allows (LockRule story own fixed) slots id x 2 (λ k. (k + (2 ^ 64 - 1)) % 2 ^ 64) (PutsBack x)) (sym is) (puts_back slots id (record v { over = true; draws = drawn }) c refl)
