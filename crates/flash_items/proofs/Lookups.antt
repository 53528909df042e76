-- Lookups in finite maps whose keys are numbers or bytes.
use Rattle.std.proofs.Common.{◌≡◌, ℕ, true, false, cond, List, Some, None, refl, ◌∙◌, ap, subst, inl, inr, ◌⊎◌, arith}
use Rattle.std.specs.Ordering.{nat_cmp, is_eq, eq_by_cmp}
use Rattle.std.specs.declared.cmp.Ordering.{Ordering}
use Rattle.std.specs.declared.cmp.Ordering.TheVariants.{Less, Equal, Greater}
use Rattle.std.specs.Cmp.{IsTotalOrder}
use Rattle.std.proofs.lemmas.Cmp.{eq_by_cmp_equiv}
use Rattle.std.proofs.lemmas.Bool.Decides.{nat_tests}
use Rattle.std.specs.Cmp.Lexicographic.{slice_cmp, nat_list_cmp_total}
use Rattle.std.specs.FinMap.{FinMap, get, insert, remove, get-insert, get-remove, IsAntisymmetric}
use Rattle.std.proofs.lemmas.Bool.{cases_Bool}

equal_of : (r : Ordering) → is_eq r ≡ true → r ≡ Equal
equal_of Less e = absurd (cc)
equal_of Equal e = refl
equal_of Greater e = absurd (cc)

-- two keys are the same, or not
pub cases_key : {K : Type 0} (R : K → K → Ordering) (anti : IsAntisymmetric R) (itself : (k : K) → eq_by_cmp R k k ≡ true) (q k : K) → (q ≡ k) ⊎ (q ≡ k → ⊥)
cases_key {K} R anti itself q k = elim (cases_Bool (eq_by_cmp R q k)) [
  | inl e ↦ inl (anti q k (equal_of (R q k) e))
  | inr e ↦ inr (λ same. (let both : eq_by_cmp R q k ≡ true = subst (λ (z : K). eq_by_cmp R q z ≡ true) same (itself q) in cc))
]

other_key : {K : Type 0} (R : K → K → Ordering) (anti : IsAntisymmetric R) (q k : K) → (q ≡ k → ⊥) → eq_by_cmp R q k ≡ false
other_key R anti q k n = elim (cases_Bool (eq_by_cmp R q k)) [ inl e ↦ absurd (n (anti q k (equal_of (R q k) e))) | inr e ↦ e ]

module _ {K X : Type 0} (R : K → K → Ordering) (o : IsTotalOrder R) (anti : IsAntisymmetric R) (itself : (k : K) → eq_by_cmp R k k ≡ true) where
  pub insert_here : (m : FinMap R X) (k : K) (v : X) → get (insert m k v) k ≡ Some v
  insert_here m k v = get-insert o m k v k ∙ ap (λ b. cond b (Some v) (get m k)) (itself k)

  pub insert_else : (m : FinMap R X) (k : K) (v : X) (q : K) → (q ≡ k → ⊥) → get (insert m k v) q ≡ get m q
  insert_else m k v q n = get-insert o m k v q ∙ ap (λ b. cond b (Some v) (get m q)) (other_key R anti q k n)

  pub remove_here : (m : FinMap R X) (k : K) → get (remove m k) k ≡ None
  remove_here m k = get-remove o m k k ∙ ap (λ b. cond b None (get m k)) (itself k)

  pub remove_else : (m : FinMap R X) (k q : K) → (q ≡ k → ⊥) → get (remove m k) q ≡ get m q
  remove_else m k q n = get-remove o m k q ∙ ap (λ b. cond b None (get m q)) (other_key R anti q k n)

-- a number and a list of bytes tie with themselves
pub nat_itself : (k : ℕ) → eq_by_cmp nat_cmp k k ≡ true
nat_itself k = grind (arith, nat_tests)

pub bytes_itself : (k : List ℕ) → eq_by_cmp (slice_cmp nat_cmp) k k ≡ true
bytes_itself k = (eq_by_cmp_equiv nat_list_cmp_total).refl k
