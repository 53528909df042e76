-- The first element that passes, from the last one on.
use Rattle.std.proofs.Common.{◌≡◌, Bool, true, false, cond, List, [], ◌∷◌, ◌++◌, map, Option, Some, None, option_map, refl, ◌∙◌, ap}
use Rattle.std.specs.Prelude.{reverse}
use Rattle.std.specs.List.{find}
use Rattle.std.specs.Option.{option_or}
use mathlib.Core.List.{reverse-cons}
use Rattle.flash_index.specs.Walk.{last_passing}

pub mapped_or : {A B : Type 0} (f : A → B) (p q : Option A) → option_map f (option_or p q) ≡ option_or (option_map f p) (option_map f q)
mapped_or f None q = refl
mapped_or f (Some x) q = refl

or_step : {A : Type 0} (b : Bool) (x : A) (p q : Option A) → cond b (Some x) (option_or p q) ≡ option_or (cond b (Some x) p) q
or_step true x p q = refl
or_step false x p q = refl

pub find_append : {A : Type 0} (test : A → Bool) (xs ys : List A) → find test (xs ++ ys) ≡ option_or (find test xs) (find test ys)
find_append test [] ys = refl
find_append test (x ∷ xs) ys =
    ap (cond (test x) (Some x)) (find_append test xs ys) ∙ or_step (test x) x (find test xs) (find test ys)

pub find_reversed : {A : Type 0} (test : A → Bool) (xs : List A) → find test (reverse xs) ≡ last_passing test xs
find_reversed test [] = refl
find_reversed test (x ∷ xs) =
    ap (find test) (reverse-cons x xs) ∙ find_append test (reverse xs) (x ∷ [])
    ∙ ap (λ o. option_or o (cond (test x) (Some x) None)) (find_reversed test xs)

map_step : {A B : Type 0} (f : A → B) (b : Bool) (x : A) (p : Option B) (q : Option A) → p ≡ option_map f q → cond b (Some (f x)) p ≡ option_map f (cond b (Some x) q)
map_step f true x p q is = refl
map_step f false x p q is = is

pub find_mapped : {A B : Type 0} (f : A → B) (test : B → Bool) (xs : List A) → find test (map f xs) ≡ option_map f (find (λ x. test (f x)) xs)
find_mapped f test [] = refl
find_mapped f test (x ∷ xs) =
    map_step f (test (f x)) x (find test (map f xs)) (find (λ y. test (f y)) xs) (find_mapped f test xs)
