-- Elements of lists by their places, and what holds of each element.
use Rattle.std.proofs.Common.{◌≡◌, ℕ, zero, suc, List, [], ◌∷◌, ◌++◌, length, Some, refl}
use Rattle.std.specs.Prelude.{slice_get}
use Rattle.std.specs.List.{AllByRecursion}

module _ {A : Type 0} where
  -- what follows for one element follows for all
  pub all_map : (P Q : A → Type 0) → ((x : A) → P x → Q x) → (xs : List A) → AllByRecursion P xs → AllByRecursion Q xs
  all_map P Q follows [] all = tt
  all_map P Q follows (x ∷ xs) all = (follows x all.0, all_map P Q follows xs all.1)

  -- an element before others, and the one after all of them
  pub get-front : (xs ys : List A) (i : ℕ) (x : A) → slice_get xs i ≡ Some x → slice_get (xs ++ ys) i ≡ Some x
  get-front [] ys i x is = absurd (cc is)
  get-front (y ∷ xs) ys zero x is = is
  get-front (y ∷ xs) ys (suc i) x is = get-front xs ys i x is

  pub get-seam : (xs : List A) (x : A) → slice_get (xs ++ x ∷ []) (length xs) ≡ Some x
  get-seam [] x = refl
  get-seam (y ∷ xs) x = get-seam xs x
