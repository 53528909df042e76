-- The first live item behind a key, among the items that are left.
use Rattle.std.proofs.Common.{◌≡◌, Bool, true, false, ◌&&◌, List, [], ◌∷◌, Some, cond, refl, ap}
use Rattle.std.specs.List.{filter, find}

-- the first that passes two tests is the first that passes the second among those that pass the first
pub found_among : {X : Type 0} (first second : X → Bool) (xs : List X) → find (λ x. first x && second x) xs ≡ find second (filter first xs)
found_among first second [] = refl
found_among first second (x ∷ xs) = by_case (first x) (found_among first second xs)
  where
    by_case : (a : Bool) → find (λ x. first x && second x) xs ≡ find second (filter first xs)
        → cond (a && second x) (Some x) (find (λ x. first x && second x) xs) ≡ find second (cond a (x ∷ filter first xs) (filter first xs))
    by_case true rest = ap (cond (second x) (Some x)) rest
    by_case false rest = rest

-- the first one, if it passes
pub found_first : {X : Type 0} (test : X → Bool) (x : X) (xs : List X) → test x ≡ true → find test (x ∷ xs) ≡ Some x
found_first test x xs passes = ap (λ b. cond b (Some x) (find test xs)) passes

-- and if it doesn't, one of the others
pub found_later : {X : Type 0} (test : X → Bool) (x : X) (xs : List X) → test x ≡ false → find test (x ∷ xs) ≡ find test xs
found_later test x xs fails = ap (λ b. cond b (Some x) (find test xs)) fails
