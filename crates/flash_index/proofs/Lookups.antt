-- Keys, and lookups in finite maps by keys and by numbers.
use Rattle.std.proofs.Common.{◌≡◌, ℕ, true, false, cond, List, Some, None, refl, sym, ◌∙◌, ap, inl, inr, ◌⊎◌, arith}
use Rattle.std.specs.Ordering.{nat_cmp, eq_by_cmp}
use Rattle.std.specs.declared.cmp.Ordering.{Ordering}
use Rattle.std.specs.Cmp.{nat_cmp_total}
use Rattle.std.specs.Cmp.Lexicographic.{slice_cmp, nat_list_cmp_total}
use Rattle.std.specs.Str.{bytes_eq}
use Rattle.std.specs.FinMap.{FinMap, get, insert, remove, get-insert, get-remove, same_map, nat_cmp-IsAntisymmetric, slice_cmp-IsAntisymmetric}
use Rattle.std.proofs.lemmas.Bool.{cases_Bool}
use Rattle.std.proofs.lemmas.Bool.Decides.{nat_tests}
use Rattle.std.proofs.lemmas.Slice.Eq.{bytes_eq-Decides}
use Rattle.std.proofs.lemmas.Map.Text.{is_eq-slice_cmp}

-- the order of the keys
abbrev pub order : List ℕ → List ℕ → Ordering
order = slice_cmp nat_cmp

pub true_false : true ≡ false → ⊥
true_false e = cc

pub none_some : {X : Type 0} (x : X) → None ≡ Some x → ⊥
none_some x e = cc

pub same_key : (a b : List ℕ) → bytes_eq a b ≡ true → a ≡ b
same_key a b is = (bytes_eq-Decides a b).0 is

pub key_itself : (a : List ℕ) → bytes_eq a a ≡ true
key_itself a = (bytes_eq-Decides a a).1 refl

-- two keys are the same, or not
pub cases_key : (a b : List ℕ) → (a ≡ b) ⊎ (a ≡ b → ⊥)
cases_key a b = elim (cases_Bool (bytes_eq a b)) [
  | inl e ↦ inl (same_key a b e)
  | inr e ↦ inr (λ same. true_false (sym ((bytes_eq-Decides a b).1 same) ∙ e))
]

pub other_key : (a b : List ℕ) → (a ≡ b → ⊥) → bytes_eq a b ≡ false
other_key a b n = elim (cases_Bool (bytes_eq a b)) [ inl e ↦ absurd (n (same_key a b e)) | inr e ↦ e ]

-- the map's test of two keys is that of the bytes
pub tied : (a b : List ℕ) → eq_by_cmp order a b ≡ bytes_eq a b
tied a b = is_eq-slice_cmp a b

module _ {X : Type 0} (m : FinMap order X) (k : List ℕ) where
  pub put_here : (v : X) → get (insert m k v) k ≡ Some v
  put_here v = get-insert nat_list_cmp_total m k v k ∙ ap (λ b. cond b (Some v) (get m k)) (tied k k ∙ key_itself k)

  pub put_else : (v : X) (q : List ℕ) → (q ≡ k → ⊥) → get (insert m k v) q ≡ get m q
  put_else v q n = get-insert nat_list_cmp_total m k v q ∙ ap (λ b. cond b (Some v) (get m q)) (tied q k ∙ other_key q k n)

  pub cut_here : get (remove m k) k ≡ None
  cut_here = get-remove nat_list_cmp_total m k k ∙ ap (λ b. cond b None (get m k)) (tied k k ∙ key_itself k)

  pub cut_else : (q : List ℕ) → (q ≡ k → ⊥) → get (remove m k) q ≡ get m q
  cut_else q n = get-remove nat_list_cmp_total m k q ∙ ap (λ b. cond b None (get m q)) (tied q k ∙ other_key q k n)

-- two maps by keys that answer alike are one
pub same_by_keys : {X : Type 0} (m n : FinMap order X) → ((q : List ℕ) → get m q ≡ get n q) → m ≡ n
same_by_keys m n alike = same_map nat_list_cmp_total (slice_cmp-IsAntisymmetric nat_cmp-IsAntisymmetric) m n alike

same_number : (a b : ℕ) → a ≡ b → eq_by_cmp nat_cmp a b ≡ true
same_number a b e = grind (arith, nat_tests)

other_number : (a b : ℕ) → (a ≡ b → ⊥) → eq_by_cmp nat_cmp a b ≡ false
other_number a b n = grind (arith, nat_tests)

module _ {X : Type 0} (m : FinMap nat_cmp X) (k : ℕ) where
  pub id_put_here : (v : X) → get (insert m k v) k ≡ Some v
  id_put_here v = get-insert nat_cmp_total m k v k ∙ ap (λ b. cond b (Some v) (get m k)) (same_number k k refl)

  pub id_put_else : (v : X) (q : ℕ) → (q ≡ k → ⊥) → get (insert m k v) q ≡ get m q
  id_put_else v q n = get-insert nat_cmp_total m k v q ∙ ap (λ b. cond b (Some v) (get m q)) (other_number q k n)

  pub id_cut_else : (q : ℕ) → (q ≡ k → ⊥) → get (remove m k) q ≡ get m q
  id_cut_else q n = get-remove nat_cmp_total m k q ∙ ap (λ b. cond b None (get m q)) (other_number q k n)
