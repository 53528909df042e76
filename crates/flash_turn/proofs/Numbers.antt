-- Each step keeps the numbers of passes apart.
use Rattle.std.proofs.Common.{subst, ⊎_elim, ◌≡◌, ℕ, ◌+◌, ◌<◌, ◌≤◌, ◌≢◌, ◌^◌, List, [], ◌∷◌, ◌++◌, set, sym, ap, ap₂, ◌∙◌, arith, cond, true, false, length-set, length-append, Some, None}
use mathlib.Core.Logic.{dite}
use native.Mathlib.Decide.{ℕ_discrete}
use mathlib.Core.Option.{some}
use lib.ListN.{get_elem?}
use Rattle.flash_turn.specs.declared.view.View.{View}
use Rattle.flash_turn.specs.Counts.{total, times, one_if_at, one_if_some, claims, pendings, overs, given}
use Rattle.std.specs.List.{AllByRecursion}
use Rattle.flash_turn.specs.Numbered.{limit, IsPast, Numbered}
use Rattle.flash_turn.specs.Steps.{spent_view}
use Rattle.flash_turn.proofs.Lists.{each_set, each_of_all, all_both}
use Rattle.atomic_table.proofs.Lists.{at_snoc}
use Rattle.flash_turn.proofs.Totals.{first_times, term_le, times-append, total-append, total-set, total_same, total_few, at_most, at_else, bit_most}

-- what each pass has drawn is past the next number
abbrev HavePast : {T : Type 0} → ℕ → List (View T) → Type 0
HavePast {T} next views = (j : ℕ) (v : View T) → get_elem? views j ≡ some v → AllByRecursion (IsPast next) v.draws

past_more : (next n : ℕ) → IsPast next n → IsPast (next + 1) n
past_more next n past = record { below = λ low. let b = past.below low in omega arith; reached = λ high. let r = past.reached high in omega arith }

-- one number fewer, where even that one is at the limit or above it
past_fewer : (before next : ℕ) → limit ≤ before → (n : ℕ) → IsPast next n → IsPast before n
past_fewer before next high n past = record { below = λ low. omega arith; reached = λ _. high }

module _ {T : Type 0} (next : ℕ) (views : List (View T)) (i : ℕ) (w : View T) where
  -- one pass has drawn as much as is past
  past_set : HavePast next views → AllByRecursion (IsPast next) w.draws → HavePast next (set views i w)
  past_set past all = each_set (λ (u : View T). AllByRecursion (IsPast next) u.draws) (λ (u : View T). AllByRecursion (IsPast next) u.draws) views i w past (λ j u other there ok. ok) all

  -- the same where the next number is another
  past_moved : (moved : ℕ) → ((n : ℕ) → IsPast next n → IsPast moved n) → HavePast next views → AllByRecursion (IsPast moved) w.draws → HavePast moved (set views i w)
  past_moved moved goes past all = each_set (λ (u : View T). AllByRecursion (IsPast next) u.draws) (λ (u : View T). AllByRecursion (IsPast moved) u.draws) views i w past
      (λ j u other there ok. each_of_all (IsPast next) (IsPast moved) goes u.draws ok) all

module _ {T : Type 0} (next : ℕ) (views : List (View T)) (i : ℕ) (v w : View T) where
  -- a step that leaves the numbers
  pub numbered_same : get_elem? views i ≡ some v → w.numbers ≡ v.numbers → w.pending ≡ v.pending → w.over ≡ v.over → w.draws ≡ v.draws → Numbered next views → Numbered next (set views i w)
  numbered_same here numbers pending over draws n =
      let claim : (x : ℕ) → total (claims x) (set views i w) ≡ total (claims x) views = λ x. total_same (claims x) views i v w here (ap₂ (λ (a b : ℕ). a + b) (ap (times x) numbers) (ap (one_if_at x) pending)) in
      let spare' = total_same pendings views i v w here (ap one_if_some pending) in
      let over' = total_same overs views i v w here (ap (λ b. cond b 1 0) over) in
      let long = length-set views i w in
      record {
        distinct = λ x. let c = claim x in let d = n.distinct x in omega arith;
        drawn = λ x some. n.drawn x (let c = claim x in omega arith);
        fewer = let f = n.fewer in omega arith;
        few = let f = n.few in omega arith;
        most = let f = n.most in omega arith;
        exact = λ p. let f = n.exact (omega arith) in omega arith;
        past = past_set next views i w n.past (subst (AllByRecursion (IsPast next)) (sym draws) (n.past i v here));
      }

module _ {T : Type 0} (next : ℕ) (views : List (View T)) (i : ℕ) (v w : View T) where
  -- a pass's own number is above 0
  pub own_some : (n : ℕ) (joined : List ℕ) → Numbered next views → get_elem? views i ≡ some v → v.numbers ≡ n ∷ joined → 0 < n
  own_some n joined num here numbers =
      let mine = term_le (claims n) views i v here in let one = first_times n v.numbers joined numbers in (num.drawn n (omega arith)).0

  -- nobody has the next number
  pub next_unused : Numbered next views → total (claims next) views ≡ 0
  next_unused n = dite (ℕ_discrete (total (claims next) views) 0) (λ e. e) (λ some. let d = n.drawn next (let p : total (claims next) views ≢ 0 = some in omega arith) in absurd (let b : next < next = d.1 in omega arith))

  -- the next number was drawn
  drawn_past : w.draws ≡ next ∷ v.draws → IsPast (next + 1) next → Numbered next views → get_elem? views i ≡ some v → AllByRecursion (IsPast (next + 1)) w.draws
  drawn_past draws new n here = subst (AllByRecursion (IsPast (next + 1))) (sym draws) (new, each_of_all (IsPast next) (IsPast (next + 1)) (past_more next) v.draws (n.past i v here))

  -- the next number is drawn for a new pass
  pub numbered_draws : get_elem? views i ≡ some v → v.pending ≡ None → w.numbers ≡ v.numbers → w.pending ≡ Some next → w.over ≡ v.over → w.draws ≡ next ∷ v.draws → next < limit → Numbered next views → Numbered (next + 1) (set views i w)
  numbered_draws here empty numbers pending over draws low n =
      let claims-v : (x : ℕ) → claims x v ≡ times x v.numbers = λ x. let z : one_if_at x v.pending ≡ 0 = ap (one_if_at x) empty in omega arith in
      let claims-w : (x : ℕ) → claims x w ≡ times x v.numbers + one_if_at x (Some next) = λ x. ap₂ (λ (a b : ℕ). a + b) (ap (times x) numbers) (ap (one_if_at x) pending) in
      let pendings-v : pendings v ≡ 0 = ap one_if_some empty in
      let pendings-w : pendings w ≡ 1 = ap one_if_some pending in
      let spares' = total-set pendings views i v w here in
      let overs' = total_same overs views i v w here (ap (λ b. cond b 1 0) over) in
      let long = length-set views i w in
      record {
        distinct = λ x. let more = total-set (claims x) views i v w here in let a = claims-v x in let b = claims-w x in let d = n.distinct x in
            dite (ℕ_discrete next x)
            (λ e. let none-yet : total (claims x) views ≡ 0 = ap (λ y. total (claims y) views) (sym e) ∙ next_unused n in let one = at_most x (Some next) in omega arith)
            (λ ne. let zero-here = at_else x next ne in omega arith);
        drawn = λ x some. let more = total-set (claims x) views i v w here in let a = claims-v x in let b = claims-w x in let f = n.fewer in
            dite (ℕ_discrete next x)
            (λ e. let is : x ≡ next = sym e in (omega arith, omega arith, omega arith))
            (λ ne. let zero-here = at_else x next ne in let d = n.drawn x (omega arith) in (d.0, omega arith, d.2));
        fewer = let f = n.fewer in omega arith;
        few = let f = n.fewer in omega arith;
        most = omega arith;
        exact = λ p. let f = n.exact (omega arith) in absurd (omega arith);
        past = past_moved next views i w (next + 1) (past_more next) n.past (drawn_past draws (record { below = λ _. omega arith; reached = λ high. absurd (omega arith) }) n here);
      }

  -- the next number is too large
  pub numbered_over : get_elem? views i ≡ some v → v.over ≡ false → w.numbers ≡ v.numbers → w.pending ≡ v.pending → w.over ≡ true → w.draws ≡ next ∷ v.draws → limit ≤ next → Numbered next views → Numbered (next + 1) (set views i w)
  numbered_over here empty numbers pending over draws high n =
      let claim : (x : ℕ) → total (claims x) (set views i w) ≡ total (claims x) views = λ x. total_same (claims x) views i v w here (ap₂ (λ (a b : ℕ). a + b) (ap (times x) numbers) (ap (one_if_at x) pending)) in
      let spare' = total_same pendings views i v w here (ap one_if_some pending) in
      let overs-v : overs v ≡ 0 = ap (λ b. cond b 1 0) empty in
      let overs-w : overs w ≡ 1 = ap (λ b. cond b 1 0) over in
      let over' = total-set overs views i v w here in
      let long = length-set views i w in
      record {
        distinct = λ x. let c = claim x in let d = n.distinct x in omega arith;
        drawn = λ x some. let c = claim x in let d = n.drawn x (omega arith) in (d.0, omega arith, d.2);
        fewer = let f = n.fewer in omega arith;
        few = let f = n.few in omega arith;
        most = let f = n.most in omega arith;
        exact = λ p. let f = n.most in dite (ℕ_discrete (total overs views) 0) (λ e. omega (arith, e)) (λ ne. let g = n.exact (omega (arith, ne)) in omega arith);
        past = past_moved next views i w (next + 1) (past_more next) n.past (drawn_past draws (record { below = λ _. omega arith; reached = λ _. omega arith }) n here);
      }

  -- a number that was too large is put back
  pub numbered_puts_back : (before : ℕ) → before + 1 ≡ next → get_elem? views i ≡ some v → v.over ≡ true → w.numbers ≡ v.numbers → w.pending ≡ v.pending → w.over ≡ false → w.draws ≡ v.draws → Numbered next views → Numbered before (set views i w)
  numbered_puts_back before is here full numbers pending over draws n =
      let claim : (x : ℕ) → total (claims x) (set views i w) ≡ total (claims x) views = λ x. total_same (claims x) views i v w here (ap₂ (λ (a b : ℕ). a + b) (ap (times x) numbers) (ap (one_if_at x) pending)) in
      let spare' = total_same pendings views i v w here (ap one_if_some pending) in
      let overs-v : overs v ≡ 1 = ap (λ b. cond b 1 0) full in
      let overs-w : overs w ≡ 0 = ap (λ b. cond b 1 0) over in
      let over' = total-set overs views i v w here in
      let long = length-set views i w in
      let exact = n.exact (omega arith) in
      record {
        distinct = λ x. let c = claim x in let d = n.distinct x in omega arith;
        drawn = λ x some. let c = claim x in let d = n.drawn x (omega arith) in (d.0, (let b = d.2 in omega arith), d.2);
        fewer = let f = n.few in omega arith;
        few = let f = n.few in omega arith;
        most = omega arith;
        exact = λ p. omega arith;
        past = let high : limit ≤ before = omega arith in let fewer = past_fewer before next high in
            past_moved next views i w before fewer n.past (subst (AllByRecursion (IsPast before)) (sym draws) (each_of_all (IsPast next) (IsPast before) fewer v.draws (n.past i v here)));
      }

  -- the next number is a small one
  pub next_small : Numbered next views → next < 2 ^ 33
  next_small n = let few = total_few overs views (λ u. bit_most u.over) in let f = n.few in let m = n.most in omega arith

  -- a number that was drawn goes to a new pass
  pub numbered_splits : (x' : ℕ) (new : View T) → get_elem? views i ≡ some v → v.pending ≡ Some x' → w.numbers ≡ v.numbers → w.pending ≡ None → w.over ≡ v.over → w.draws ≡ v.draws → new.numbers ≡ x' ∷ [] → new.pending ≡ None → new.over ≡ false → new.draws ≡ [] → Numbered next views → Numbered next (set views i w ++ new ∷ [])
  numbered_splits x' new here full numbers pending over draws its-number its-pending its-over its-draws n =
      let claim : (x : ℕ) → total (claims x) (set views i w ++ new ∷ []) ≡ total (claims x) views = λ x.
      let more = total-set (claims x) views i v w here in
      let a : claims x v ≡ times x v.numbers + one_if_at x (Some x') = ap (λ o. times x v.numbers + one_if_at x o) full in
      let b : claims x w ≡ times x v.numbers + 0 = ap₂ (λ (p q : ℕ). p + q) (ap (times x) numbers) (ap (one_if_at x) pending) in
      let c : claims x new ≡ (one_if_at x (Some x') + 0) + 0 = ap₂ (λ (p q : ℕ). p + q) (ap (times x) its-number) (ap (one_if_at x) its-pending) in
      omega (arith, total-append (claims x) (set views i w) (new ∷ [])) in
      let spares' = total-set pendings views i v w here in
      let pendings-v : pendings v ≡ 1 = ap one_if_some full in
      let pendings-w : pendings w ≡ 0 = ap one_if_some pending in
      let pendings-new : pendings new ≡ 0 = ap one_if_some its-pending in
      let pendings-all = total-append pendings (set views i w) (new ∷ []) in
      let overs' = total_same overs views i v w here (ap (λ b. cond b 1 0) over) in
      let overs-new : overs new ≡ 0 = ap (λ b. cond b 1 0) its-over in
      let overs-all = total-append overs (set views i w) (new ∷ []) in
      let long = length-set views i w in
      let longer = length-append (set views i w) (new ∷ []) in
      record {
        distinct = λ x. let c = claim x in let d = n.distinct x in omega arith;
        drawn = λ x some. n.drawn x (let c = claim x in omega arith);
        fewer = let f = n.fewer in omega arith;
        few = let f = n.few in omega arith;
        most = let f = n.most in omega arith;
        exact = λ p. let f = n.exact (omega arith) in omega arith;
        past = λ j u there. ⊎_elim
            (past_set next views i w n.past (subst (AllByRecursion (IsPast next)) (sym draws) (n.past i v here)) j u)
            (λ (is : new ≡ u). subst (λ (x : View T). AllByRecursion (IsPast next) x.draws) is (subst (AllByRecursion (IsPast next)) (sym its-draws) tt))
            (at_snoc (set views i w) new u j there);
      }

-- a pass takes in the numbers of another, which has no other claim
pub numbered_joins : {T : Type 0} (next : ℕ) (views : List (View T)) (i o : ℕ) (v w both : View T) → get_elem? views i ≡ some v → get_elem? (set views i both) o ≡ some w → both.numbers ≡ v.numbers ++ w.numbers → both.pending ≡ v.pending → both.over ≡ v.over → both.draws ≡ v.draws ++ w.draws → w.pending ≡ None → w.over ≡ false → AllByRecursion (IsPast next) w.draws
    → Numbered next views → Numbered next (set (set views i both) o spent_view)
numbered_joins {T} next views i o v w both here there numbers pending over draws w-pending w-over w-past n =
    let mid : List (View T) = set views i both in
    let claim : (x : ℕ) → total (claims x) (set mid o spent_view) ≡ total (claims x) views = λ x.
    let first = total-set (claims x) views i v both here in
    let second = total-set (claims x) mid o w spent_view there in
    let a : claims x both ≡ times x (v.numbers ++ w.numbers) + one_if_at x v.pending = ap₂ (λ (p q : ℕ). p + q) (ap (times x) numbers) (ap (one_if_at x) pending) in
    let b = times-append x v.numbers w.numbers in
    let c : claims x w ≡ times x w.numbers + 0 = ap (λ o. times x w.numbers + one_if_at x o) w-pending in
    omega arith in
    let pendings-1 = total_same pendings views i v both here (ap one_if_some pending) in
    let pendings-2 = total_same pendings mid o w spent_view there (sym (ap one_if_some w-pending)) in
    let overs-1 = total_same overs views i v both here (ap (λ b. cond b 1 0) over) in
    let overs-2 = total_same overs mid o w spent_view there (sym (ap (λ b. cond b 1 0) w-over)) in
    let long-1 = length-set views i both in
    let long-2 = length-set mid o spent_view in
    record {
      distinct = λ x. let c = claim x in let d = n.distinct x in omega arith;
      drawn = λ x some. n.drawn x (let c = claim x in omega arith);
      fewer = let f = n.fewer in omega arith;
      few = let f = n.few in omega arith;
      most = let f = n.most in omega arith;
      exact = λ p. let f = n.exact (omega arith) in omega arith;
      past = past_set next mid o spent_view (past_set next views i both n.past (subst (AllByRecursion (IsPast next)) (sym draws) (all_both (IsPast next) v.draws w.draws (n.past i v here) w-past))) tt;
    }

-- the same of the numbers that were given
pub given_joins : {T : Type 0} (views : List (View T)) (i o : ℕ) (v w both : View T) (x : ℕ) → get_elem? views i ≡ some v → get_elem? (set views i both) o ≡ some w → both.numbers ≡ v.numbers ++ w.numbers
    → total (given x) (set (set views i both) o spent_view) ≡ total (given x) views
given_joins {T} views i o v w both x here there numbers =
    let mid : List (View T) = set views i both in
    let first = total-set (given x) views i v both here in
    let second = total-set (given x) mid o w spent_view there in
    let a : given x both ≡ times x (v.numbers ++ w.numbers) = ap (times x) numbers in
    let b = times-append x v.numbers w.numbers in omega arith
