-- Each step keeps the order of the tickets.
use Rattle.std.proofs.Common.{◌≡◌, ℕ, ◌+◌, ◌<◌, ◌≤◌, List, set, sym, ap, ◌∙◌, arith, Some, None, ◌++◌, ◌∷◌, [], ⊎_elim}
use mathlib.Core.Logic.{dite}
use native.Mathlib.Decide.{ℕ_discrete}
use mathlib.Core.Option.{some}
use lib.ListN.{get_elem?}
use Rattle.atomic_table.proofs.Lists.{at_snoc}
use Rattle.flash_turn.specs.declared.view.View.{View}
use Rattle.flash_turn.specs.Counts.{total, one_if_at, one_if_some, waits, waits_at}
use Rattle.flash_turn.specs.Queue.{Queue}
use Rattle.flash_turn.proofs.Totals.{total-append, total-set, total_same, total_none, terms_le, at_here, at_else, at_other}
use Rattle.flash_turn.proofs.Lists.{each_set}

module _ {T : Type 0} (drawn served : ℕ) (views : List (View T)) (i : ℕ) (v w : View T) where
  -- a pass without a ticket draws the next
  pub queue_draws : get_elem? views i ≡ some v → v.ticket ≡ None → w.ticket ≡ Some drawn → Queue drawn served views → Queue (drawn + 1) served (set views i w)
  queue_draws here none new q =
      let before : waits v ≡ 0 = ap one_if_some none in
      let after : waits w ≡ 1 = ap one_if_some new in
      let more = total-set waits views i v w here in
      record {
        count = let c = q.count in omega arith;
        distinct = λ k. let sum = total-set (waits_at k) views i v w here in
            let before-k : waits_at k v ≡ 0 = ap (one_if_at k) none in
            dite (ℕ_discrete drawn k)
            (λ e. let after-k : waits_at k w ≡ 1 = ap (one_if_at k) (new ∙ ap Some e) ∙ at_here k in
            let nobody : total (waits_at k) views ≡ 0 = total_none (waits_at k) views (λ j u there. at_other k u.ticket (λ y at same. let b = q.between j u there y at in omega arith)) in omega arith)
            (λ n. let after-k : waits_at k w ≡ 0 = ap (one_if_at k) new ∙ at_else k drawn n in let c = q.distinct k in omega arith);
        between = each_set (λ u. (k : ℕ) → u.ticket ≡ Some k → (served ≤ k) × (k < drawn)) (λ u. (k : ℕ) → u.ticket ≡ Some k → (served ≤ k) × (k < drawn + 1)) views i w
            q.between
            (λ j u other there ok k at. let b = ok k at in (b.0, omega arith))
            (λ k at. let e : drawn ≡ k = cc (new, at) in let c = q.count in (omega arith, omega arith));
      }

  -- the pass whose ticket is served gives it back
  pub queue_serves : get_elem? views i ≡ some v → v.ticket ≡ Some served → w.ticket ≡ None → Queue drawn served views → Queue drawn (served + 1) (set views i w)
  queue_serves here old none q =
      let before : waits v ≡ 1 = ap one_if_some old in
      let after : waits w ≡ 0 = ap one_if_some none in
      let more = total-set waits views i v w here in
      let mine : waits_at served v ≡ 1 = ap (one_if_at served) old ∙ at_here served in
      record {
        count = let c = q.count in omega arith;
        distinct = λ k. let sum = total-set (waits_at k) views i v w here in let after-k : waits_at k w ≡ 0 = ap (one_if_at k) none in let c = q.distinct k in omega arith;
        between = each_set (λ u. (k : ℕ) → u.ticket ≡ Some k → (served ≤ k) × (k < drawn)) (λ u. (k : ℕ) → u.ticket ≡ Some k → (served + 1 ≤ k) × (k < drawn)) views i w
            q.between
            (λ j u other there ok k at. let b = ok k at in dite (ℕ_discrete k served)
            (λ e. let theirs : waits_at served u ≡ 1 = ap (one_if_at served) (at ∙ ap Some e) ∙ at_here served in let two = terms_le (waits_at served) views i j v u other here there in let c = q.distinct served in absurd (omega arith))
            (λ n. (omega arith, b.1)))
            (λ k at. absurd (cc (none, at)));
      }

  -- a step that leaves the ticket
  pub queue_same : get_elem? views i ≡ some v → w.ticket ≡ v.ticket → Queue drawn served views → Queue drawn served (set views i w)
  queue_same here same q = record {
    count = let e = total_same waits views i v w here (ap one_if_some same) in let c = q.count in omega arith;
    distinct = λ k. let e = total_same (waits_at k) views i v w here (ap (one_if_at k) same) in let c = q.distinct k in omega arith;
    between = each_set (λ u. (k : ℕ) → u.ticket ≡ Some k → (served ≤ k) × (k < drawn)) (λ u. (k : ℕ) → u.ticket ≡ Some k → (served ≤ k) × (k < drawn)) views i w
        q.between
        (λ j u other there ok. ok)
        (λ k at. q.between i v here k (sym same ∙ at));
  }

-- a new pass without a ticket
pub queue_more : {T : Type 0} (drawn served : ℕ) (views : List (View T)) (new : View T) → new.ticket ≡ None → Queue drawn served views → Queue drawn served (views ++ new ∷ [])
queue_more {T} drawn served views new none q = record {
  count = let e = total-append waits views (new ∷ []) in let z : waits new ≡ 0 = ap one_if_some none in let c = q.count in omega arith;
  distinct = λ k. let e = total-append (waits_at k) views (new ∷ []) in let z : waits_at k new ≡ 0 = ap (one_if_at k) none in let c = q.distinct k in omega arith;
  between = λ j u there k at. ⊎_elim (λ old. q.between j u old k at) (λ (is : new ≡ u). absurd (cc (none, ap (λ (x : View T). x.ticket) is, at))) (at_snoc views new u j there);
}
