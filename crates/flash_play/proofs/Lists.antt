-- Elements of lists by their places, and what holds of each element of two lists.
use Rattle.std.proofs.Common.{◌≡◌, ◌≢◌, ℕ, ◌<◌, List, [], ◌∷◌, ◌++◌, length, Some, refl, arith, zero, suc}
use Rattle.std.specs.Prelude.{slice_get, slice_set}
use Rattle.std.specs.List.{AllByRecursion}

module _ {A : Type 0} where
  -- what follows for one element follows for all
  pub all_map : (P Q : A → Type 0) → ((x : A) → P x → Q x) → (xs : List A) → AllByRecursion P xs → AllByRecursion Q xs
  all_map P Q follows [] all = tt
  all_map P Q follows (x ∷ xs) all = (follows x all.0, all_map P Q follows xs all.1)

  -- what holds of each of two lists holds of each of both
  pub all_append : (P : A → Type 0) (xs ys : List A) → AllByRecursion P xs → AllByRecursion P ys → AllByRecursion P (xs ++ ys)
  all_append P [] ys first second = second
  all_append P (x ∷ xs) ys first second = (first.0, all_append P xs ys first.1 second)

  -- an element before others, and the one after all of them
  pub get-front : (xs ys : List A) (i : ℕ) (x : A) → slice_get xs i ≡ Some x → slice_get (xs ++ ys) i ≡ Some x
  get-front [] ys i x is = absurd (cc is)
  get-front (y ∷ xs) ys zero x is = is
  get-front (y ∷ xs) ys (suc i) x is = get-front xs ys i x is

  pub get-seam : (xs : List A) (x : A) → slice_get (xs ++ x ∷ []) (length xs) ≡ Some x
  get-seam [] x = refl
  get-seam (y ∷ xs) x = get-seam xs x

  -- an element that was put in another's place, and the others
  pub get-set_same : (xs : List A) (i : ℕ) (x : A) → i < length xs → slice_get (slice_set xs i x) i ≡ Some x
  get-set_same [] i x high = absurd (omega arith)
  get-set_same (y ∷ ys) zero x high = refl
  get-set_same (y ∷ ys) (suc i) x high = get-set_same ys i x (omega arith)

  pub get-set_other : (xs : List A) (i j : ℕ) (x : A) → j ≢ i → slice_get (slice_set xs i x) j ≡ slice_get xs j
  get-set_other [] i j x other = refl
  get-set_other (y ∷ ys) zero zero x other = absurd (other refl)
  get-set_other (y ∷ ys) zero (suc j) x other = refl
  get-set_other (y ∷ ys) (suc i) zero x other = refl
  get-set_other (y ∷ ys) (suc i) (suc j) x other = get-set_other ys i j x (λ same. other (omega arith))
