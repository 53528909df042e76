-- A new lock keeps the rule.
use Rattle.std.proofs.Common.{◌≡◌, ℕ, zero, suc, ◌<◌, ◌≤◌, List, [], ◌∷◌, sym, refl, ap, subst, arith, Option, Some, Box}
use mathlib.Core.Logic.{dite}
use native.Mathlib.Decide.{ℕ_discrete}
use mathlib.Core.Option.{some, some-injective, some-ne-none}
use lib.ListN.{get_elem?}
use Rattle.atomic_table.specs.Table.{opening}
use Rattle.flash_names.specs.Shared.{Begins, own_of}
use Rattle.flash_turn.specs.declared.view.View.{View}
use Rattle.flash_turn.specs.Counts.{total, claims, one_if_at}
use Rattle.flash_turn.specs.Queue.{Queue}
use Rattle.std.specs.List.{AllByRecursion}
use Rattle.flash_turn.specs.Numbered.{IsPast, Numbered}
use Rattle.flash_turn.specs.Rule.{Knows, LockRule}
use Rattle.flash_turn.specs.Steps.{first_view}
use Rattle.flash_turn.proofs.Totals.{at_most, at_else}
use Rattle.flash_names.proofs.Stories.{begins_self}

alone : {A : Type 0} (P : A → Type 0) (a : A) → P a → (j : ℕ) (v : A) → get_elem? (a ∷ []) j ≡ some v → P v
alone P a p zero v e = subst P (some-injective a v e) p
alone P a p (suc j) v e = absurd (some-ne-none v (sym e))

first_claim : {T : Type 0} (value : T) (x : ℕ) → total (claims x) (first_view value ∷ []) ≡ one_if_at x (Some 1)
first_claim value x = omega arith

numbered_first : {T : Type 0} (value : T) → Numbered 2 (first_view value ∷ [])
numbered_first value = record {
  distinct = λ x. let c = first_claim value x in let b = at_most x (Some 1) in omega arith;
  drawn = λ x some. let c = first_claim value x in dite (ℕ_discrete 1 x)
      (λ e. let one : x ≡ 1 = sym e in (omega arith, omega arith, omega arith))
      (λ n. let z = at_else x 1 n in absurd (omega arith));
  fewer = omega arith;
  few = omega arith;
  most = omega arith;
  exact = λ p. absurd (omega arith);
  past = alone (λ u. AllByRecursion (IsPast 2) u.draws) (first_view value) tt;
}

queue_first : {T : Type 0} (value : T) → Queue 0 0 (first_view value ∷ [])
queue_first {T} value = record {
  count = refl;
  distinct = λ k. omega arith;
  between = alone (λ (u : View T). (k : ℕ) → u.ticket ≡ Some k → (0 ≤ k) × (k < 0)) (first_view value) (λ k e. absurd (cc e));
}

module _ {T E O F : Type 0} (story : T → Option (List E)) (own : T → List (ℕ × O)) (fixed : T → F) where
  knows_first : (value : T) → own value ≡ [] → Knows story own fixed 0 value (first_view value)
  knows_first value empty = record {
    seen = λ x e. let same : value ≡ x = cc e in (subst (λ y. Begins (story y) (story value)) same (begins_self (story value)), ap fixed same);
    met = λ x e. absurd (cc e);
    left = λ n joined e. ap (own_of n) empty;
    out = λ e. absurd (cc e);
  }

  pub opens : {A : Type 0} (b : Box T A) (value : T) → b.value ≡ value → own value ≡ [] → LockRule story own fixed (opening (0 ∷ 0 ∷ 2 ∷ []) (Some b ∷ []) (first_view value))
  opens b value is empty = record {
    drawn = 0;
    served = 0;
    next = 2;
    value = value;
    words = refl;
    queue = queue_first value;
    numbered = numbered_first value;
    home = λ _. (b, refl, is);
    known = alone (Knows story own fixed 0 value) (first_view value) (knows_first value empty);
    unknown = λ x _. ap (own_of x) empty;
  }
