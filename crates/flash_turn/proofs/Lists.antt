-- What holds of each element of a list of which one element changes.
use Rattle.std.proofs.Common.{◌≡◌, ℕ, ◌≢◌, List, [], ◌∷◌, ◌++◌, length, set, refl, subst, ⊎_elim, arith}
use Rattle.std.specs.List.{AllByRecursion}
use mathlib.Core.Option.{some}
use lib.ListN.{get_elem?}
use Rattle.atomic_table.proofs.Lists.{at_set}

module _ {A : Type 0} where
  -- each of the others meets Q where it met P, and the new one meets Q
  pub each_set : (P Q : A → Type 0) (l : List A) (i : ℕ) (w : A)
      → ((j : ℕ) (v : A) → get_elem? l j ≡ some v → P v)
      → ((j : ℕ) (v : A) → j ≢ i → get_elem? l j ≡ some v → P v → Q v)
      → Q w
      → (j : ℕ) (v : A) → get_elem? (set l i w) j ≡ some v → Q v
  each_set P Q l i w all goes new j v e =
      ⊎_elim (λ (t : (j ≡ i) × (w ≡ v)). subst Q t.1 new) (λ (t : (j ≢ i) × (get_elem? l j ≡ some v)). goes j v t.0 t.1 (all j v t.1)) (at_set l i j w v e)

  -- a list of one element
  pub set_only : (l : List A) (a : A) → length l ≡ 1 → set l 0 a ≡ a ∷ []
  set_only [] a e = absurd (omega arith)
  set_only (x ∷ []) a e = refl
  set_only (x ∷ y ∷ l) a e = absurd (omega arith)

  -- each meets Q where it meets P
  pub each_of_all : (P Q : A → Type 0) → ((x : A) → P x → Q x) → (xs : List A) → AllByRecursion P xs → AllByRecursion Q xs
  each_of_all P Q goes [] all = tt
  each_of_all P Q goes (x ∷ xs) all = (goes x all.0, each_of_all P Q goes xs all.1)

  -- each of two lists, one after the other
  pub all_both : (P : A → Type 0) (xs ys : List A) → AllByRecursion P xs → AllByRecursion P ys → AllByRecursion P (xs ++ ys)
  all_both P [] ys all more = more
  all_both P (x ∷ xs) ys all more = (all.0, all_both P xs ys all.1 more)
