-- Sums over a list of which one element changes.
use Rattle.std.proofs.Common.{◌≡◌, ℕ, zero, suc, ◌+◌, ◌<◌, ◌≤◌, ◌≢◌, List, [], ◌∷◌, ◌++◌, length, set, sym, refl, ap, arith, cond, eq-eqb, ne_eqb, Option, Some, None, Bool, true, false, Option, ◌==◌}
use mathlib.Core.Logic.{dite}
use native.Mathlib.Decide.{ℕ_discrete}
use Rattle.std.specs.List.{AllByRecursion}
use mathlib.Core.Option.{some, some-injective, some-ne-none}
use lib.ListN.{get_elem?}
use Rattle.flash_turn.specs.Counts.{total, one_if_at, one_if_some, times}

module _ {A : Type 0} (g : A → ℕ) where
  pub total-append : (l m : List A) → total g (l ++ m) ≡ total g l + total g m
  total-append [] m = omega arith
  total-append (x ∷ xs) m = omega (arith, total-append xs m)

  pub total-set : (l : List A) (j : ℕ) (v w : A) → get_elem? l j ≡ some v → total g (set l j w) + g v ≡ total g l + g w
  total-set [] j v w e = absurd (some-ne-none v (sym e))
  total-set (x ∷ xs) zero v w e = omega (arith, ap g (some-injective x v e))
  total-set (x ∷ xs) (suc j) v w e = omega (arith, total-set xs j v w e)

  -- an element that counts as much as the one before
  pub total_same : (l : List A) (j : ℕ) (v w : A) → get_elem? l j ≡ some v → g w ≡ g v → total g (set l j w) ≡ total g l
  total_same l j v w e same = omega (arith, total-set l j v w e)

  pub term_le : (l : List A) (j : ℕ) (v : A) → get_elem? l j ≡ some v → g v ≤ total g l
  term_le [] j v e = absurd (some-ne-none v (sym e))
  term_le (x ∷ xs) zero v e = omega (arith, ap g (some-injective x v e))
  term_le (x ∷ xs) (suc j) v e = omega (arith, term_le xs j v e)

  pub terms_le : (l : List A) (j k : ℕ) (v u : A) → k ≢ j → get_elem? l j ≡ some v → get_elem? l k ≡ some u → g v + g u ≤ total g l
  terms_le [] j k v u n e d = absurd (some-ne-none v (sym e))
  terms_le (x ∷ xs) zero zero v u n e d = absurd (n refl)
  terms_le (x ∷ xs) zero (suc k) v u n e d = omega (arith, ap g (some-injective x v e), term_le xs k u d)
  terms_le (x ∷ xs) (suc j) zero v u n e d = omega (arith, ap g (some-injective x u d), term_le xs j v e)
  terms_le (x ∷ xs) (suc j) (suc k) v u n e d = omega (arith, terms_le xs j k v u (λ h. n (ap suc h)) e d)

  pub total_none : (l : List A) → ((j : ℕ) (v : A) → get_elem? l j ≡ some v → g v ≡ 0) → total g l ≡ 0
  total_none [] h = refl
  total_none (x ∷ xs) h = omega (arith, h zero x refl, total_none xs (λ j v e. h (suc j) v e))

  pub total_few : (l : List A) → ((x : A) → g x ≤ 1) → total g l ≤ length l
  total_few [] h = omega arith
  total_few (x ∷ xs) h = omega (arith, h x, total_few xs h)

module _ {A : Type 0} (f g : A → ℕ) where
  pub total_le : (l : List A) → ((j : ℕ) (v : A) → get_elem? l j ≡ some v → f v ≤ g v) → total f l ≤ total g l
  total_le [] h = omega arith
  total_le (x ∷ xs) h = omega (arith, h zero x refl, total_le xs (λ j v e. h (suc j) v e))

  -- one count is below another where it is so for one element, and nowhere above it
  pub total_lt : (l : List A) (i : ℕ) (u : A) → ((j : ℕ) (v : A) → get_elem? l j ≡ some v → f v ≤ g v) → get_elem? l i ≡ some u → f u < g u → total f l < total g l
  total_lt [] i u h e lt = absurd (some-ne-none u (sym e))
  total_lt (x ∷ xs) zero u h e lt = let same = some-injective x u e in omega (arith, ap f same, ap g same, total_le xs (λ j v d. h (suc j) v d))
  total_lt (x ∷ xs) (suc i) u h e lt = omega (arith, h zero x refl, total_lt xs i u (λ j v d. h (suc j) v d) e lt)

-- a number is where it is
pub at_here : (x : ℕ) → one_if_at x (Some x) ≡ 1
at_here x = ap (λ b. cond b 1 0) (eq-eqb x x refl)

pub at_else : (x y : ℕ) → y ≢ x → one_if_at x (Some y) ≡ 0
at_else x y n = ap (λ b. cond b 1 0) (ne_eqb y x n)

pub at_other : (x : ℕ) (o : Option ℕ) → ((y : ℕ) → o ≡ Some y → y ≢ x) → one_if_at x o ≡ 0
at_other x None h = refl
at_other x (Some y) h = at_else x y (h y refl)

pub at_most : (x : ℕ) (o : Option ℕ) → one_if_at x o ≤ 1
at_most x None = omega arith
at_most x (Some y) = dite (ℕ_discrete y x) (λ e. let h : one_if_at x (Some y) ≡ 1 = ap (λ b. cond b 1 0) (eq-eqb y x e) in omega arith) (λ n. omega (arith, at_else x y n))

pub some_most : {A : Type 0} (o : Option A) → one_if_some o ≤ 1
some_most None = omega arith
some_most (Some y) = omega arith

pub bit_most : (b : Bool) → cond b 1 0 ≤ 1
bit_most true = omega arith
bit_most false = omega arith

pub times-append : (x : ℕ) (ys zs : List ℕ) → times x (ys ++ zs) ≡ times x ys + times x zs
times-append x ys zs = total-append (λ y. cond (y == x) 1 0) ys zs

-- a number that is first in a list is in it
pub first_times : (n : ℕ) (numbers joined : List ℕ) → numbers ≡ n ∷ joined → 1 ≤ times n numbers
first_times n numbers joined e =
    let here = at_here n in let all : times n numbers ≡ times n (n ∷ joined) = ap (times n) e in omega (arith, here, all)

-- what holds of each number that occurs in a list holds of each of the list
pub each_counted : (P : ℕ → Type 0) (xs : List ℕ) → ((x : ℕ) → 0 < times x xs → P x) → AllByRecursion P xs
each_counted P [] holds = tt
each_counted P (y ∷ xs) holds = let here = at_here y in (holds y (let all : times y (y ∷ xs) ≡ one_if_at y (Some y) + times y xs = refl in omega arith), each_counted P xs (λ x some. holds x (let all : times x (y ∷ xs) ≡ one_if_at x (Some y) + times x xs = refl in omega arith)))
