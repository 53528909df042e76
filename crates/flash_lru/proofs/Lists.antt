-- Lists of numbers: how often one occurs, and the list without it.
use Rattle.std.proofs.Common.{◌≡◌, ℕ, zero, suc, ◌+◌, ◌≤◌, false, cond, not, eqb, List, [], ◌∷◌, ◌++◌, length, filter, refl, sym, ◌∙◌, ap, subst, inl, inr, arith, eq-eqb, ne_eqb}
use Rattle.std.proofs.lemmas.Bool.{cases_eq}
use Rattle.flash_lru.specs.Ring.{count_of}

-- the list without a number
abbrev pub other_than : ℕ → List ℕ → List ℕ
other_than x xs = filter (λ y. not (eqb y x)) xs

pub other_than_here : (x y : ℕ) (ys : List ℕ) → y ≡ x → other_than x (y ∷ ys) ≡ other_than x ys
other_than_here x y ys e = rw (eq-eqb y x e) refl

pub other_than_else : (x y : ℕ) (ys : List ℕ) → (y ≡ x → ⊥) → other_than x (y ∷ ys) ≡ y ∷ other_than x ys
other_than_else x y ys n = rw (ne_eqb y x n) refl

pub count_here : (x y : ℕ) (ys : List ℕ) → y ≡ x → count_of x (y ∷ ys) ≡ 1 + count_of x ys
count_here x y ys e = rw (eq-eqb y x e) refl

pub count_else : (x y : ℕ) (ys : List ℕ) → (y ≡ x → ⊥) → count_of x (y ∷ ys) ≡ count_of x ys
count_else x y ys n = let e : eqb y x ≡ false = ne_eqb y x n in rw e (omega arith)

-- a number that isn't in the list isn't its first, and isn't in the rest
pub count_none : (x y : ℕ) (ys : List ℕ) → count_of x (y ∷ ys) ≡ 0 → (y ≡ x → ⊥) × (count_of x ys ≡ 0)
count_none x y ys h = elim (cases_eq y x) [
  | inl e ↦ absurd (omega (arith, count_here x y ys e))
  | inr n ↦ (n, omega (arith, count_else x y ys n))
]

pub count_other_same : (x : ℕ) (xs : List ℕ) → count_of x (other_than x xs) ≡ 0
count_other_same x [] = refl
count_other_same x (y ∷ ys) = elim (cases_eq y x) [
  | inl e ↦ ap (count_of x) (other_than_here x y ys e) ∙ count_other_same x ys
  | inr n ↦ ap (count_of x) (other_than_else x y ys n) ∙ count_else x y (other_than x ys) n ∙ count_other_same x ys
]

pub count_other : (x u : ℕ) (xs : List ℕ) → (u ≡ x → ⊥) → count_of u (other_than x xs) ≡ count_of u xs
count_other x u [] n = refl
count_other x u (y ∷ ys) n = elim (cases_eq y x) [
  | inl e ↦ ap (count_of u) (other_than_here x y ys e) ∙ count_other x u ys n ∙ sym (count_else u y ys (λ h. n (sym h ∙ e)))
  | inr m ↦ ap (count_of u) (other_than_else x y ys m) ∙ ap (λ k. cond (eqb y u) 1 0 + k) (count_other x u ys n)
]

-- a list without a number that it hasn't is the list
pub other_than_none : (x : ℕ) (xs : List ℕ) → count_of x xs ≡ 0 → other_than x xs ≡ xs
other_than_none x [] h = refl
other_than_none x (y ∷ ys) h =
    let both = count_none x y ys h in other_than_else x y ys both.0 ∙ ap (λ l. y ∷ l) (other_than_none x ys both.1)

pub length_other : (x : ℕ) (xs : List ℕ) → length xs ≡ count_of x xs + length (other_than x xs)
length_other x [] = refl
length_other x (y ∷ ys) = elim (cases_eq y x) [
  | inl e ↦ omega (arith, length_other x ys, count_here x y ys e, ap length (other_than_here x y ys e))
  | inr n ↦ omega (arith, length_other x ys, count_else x y ys n, ap length (other_than_else x y ys n))
]

-- numbers below n, each once at most, are n at most
pub length_below : (n : ℕ) (xs : List ℕ) → ((x : ℕ) → count_of x xs ≤ 1) → ((x : ℕ) → n ≤ x → count_of x xs ≡ 0) → length xs ≤ n
length_below zero [] once below = omega arith
length_below zero (y ∷ ys) once below = absurd (omega (arith, below y (omega arith), count_here y y ys refl))
length_below (suc n) xs once below =
    let rest : length (other_than n xs) ≤ n = length_below n (other_than n xs)
    (λ x. elim (cases_eq x n) [
      | inl e ↦ subst (λ k. count_of k (other_than n xs) ≤ 1) (sym e) (omega (arith, count_other_same n xs))
      | inr m ↦ omega (arith, count_other n x xs m, once x)
    ])
    (λ x above. elim (cases_eq x n) [
      | inl e ↦ subst (λ k. count_of k (other_than n xs) ≡ 0) (sym e) (count_other_same n xs)
      | inr m ↦ omega (arith, count_other n x xs m, below x (omega arith))
    ]) in
    omega (arith, length_other n xs, once n)

pub count_append : (x : ℕ) (xs ys : List ℕ) → count_of x (xs ++ ys) ≡ count_of x xs + count_of x ys
count_append x [] ys = omega arith
count_append x (y ∷ xs) ys = omega (arith, count_append x xs ys)
