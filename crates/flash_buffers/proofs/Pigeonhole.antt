-- Distinct numbers below n are at most n.
use Rattle.std.proofs.Common.{◌≡◌, ℕ, zero, suc, ◌+◌, ◌<◌, ◌≤◌, Bool, true, false, cond, nat_eq, nat_lt, List, [], ◌∷◌, length, refl, arith}
use Rattle.std.proofs.lemmas.Bool.Decides.{nat_tests}
use Rattle.std.proofs.lemmas.Bool.{eqb-true}
use Rattle.std.specs.List.{AllByRecursion, IsDistinct}

-- how many pass
tally : (ℕ → Bool) → List ℕ → ℕ
tally p [] = 0
tally p (x ∷ xs) = cond (p x) 1 0 + tally p xs

-- those below n + 1 are those below n and those that are n
more : (n : ℕ) (xs : List ℕ) → tally (λ x. nat_lt x (suc n)) xs ≡ tally (λ x. nat_lt x n) xs + tally (λ x. nat_eq n x) xs
unfolding tally
more n [] = refl
more n (x ∷ xs) = here n x (tally (λ x. nat_lt x (suc n)) xs) (tally (λ x. nat_lt x n) xs) (tally (λ x. nat_eq n x) xs) (more n xs) where
  here : (n x a b c : ℕ) → a ≡ b + c → cond (nat_lt x (suc n)) 1 0 + a ≡ cond (nat_lt x n) 1 0 + b + (cond (nat_eq n x) 1 0 + c)
  here n x a b c is = grind (arith, nat_tests)

none : (n x : ℕ) (xs : List ℕ) → n ≡ x → AllByRecursion (λ y. nat_eq x y ≡ false) xs → tally (λ y. nat_eq n y) xs ≡ 0
unfolding tally
none n x [] same apart = refl
none n x (y ∷ ys) same apart = grind (arith, nat_tests, apart.0, none n x ys same apart.1)

-- of distinct numbers one at most is n
once : (n : ℕ) (xs : List ℕ) → IsDistinct nat_eq xs → tally (λ x. nat_eq n x) xs ≤ 1
unfolding tally IsDistinct
once n [] distinct = omega arith
once n (x ∷ xs) distinct = either n x xs (nat_eq n x) refl distinct.0 (once n xs distinct.1) where
  either : (n x : ℕ) (xs : List ℕ) (is : Bool) → nat_eq n x ≡ is → AllByRecursion (λ y. nat_eq x y ≡ false) xs → tally (λ y. nat_eq n y) xs ≤ 1 → cond is 1 0 + tally (λ y. nat_eq n y) xs ≤ 1
  either n x xs true is apart few = omega (arith, none n x xs (eqb-true n x is) apart)
  either n x xs false is apart few = omega (arith, few)

nothing : (xs : List ℕ) → tally (λ x. nat_lt x zero) xs ≡ 0
unfolding tally
nothing [] = refl
nothing (x ∷ xs) = grind (arith, nat_tests, nothing xs)

few_below : (n : ℕ) (xs : List ℕ) → IsDistinct nat_eq xs → tally (λ x. nat_lt x n) xs ≤ n
few_below zero xs distinct = omega (arith, nothing xs)
few_below (suc n) xs distinct = omega (arith, more n xs, once n xs distinct, few_below n xs distinct)

all_below : (n : ℕ) (xs : List ℕ) → AllByRecursion (λ x. x < n) xs → tally (λ x. nat_lt x n) xs ≡ length xs
unfolding tally
all_below n [] below = refl
all_below n (x ∷ xs) below = grind (arith, nat_tests, below.0, all_below n xs below.1)

pub distinct_few : (n : ℕ) (xs : List ℕ) → AllByRecursion (λ x. x < n) xs → IsDistinct nat_eq xs → length xs ≤ n
distinct_few n xs below distinct = omega (arith, all_below n xs below, few_below n xs distinct)
