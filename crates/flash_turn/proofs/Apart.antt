-- The numbers of two passes at hand.
use Rattle.std.proofs.Common.{◌≡◌, ◌≢◌, ℕ, zero, suc, ◌<◌, List, [], ◌∷◌, length, slice_index_or, subst, arith}
use Rattle.std.specs.List.{AllByRecursion, Contains}

-- what holds of each element holds of the one at an index
all_at : {X : Type 0} (P : X → Type 0) (xs : List X) → AllByRecursion P xs → (k : ℕ) (d : X) → k < length xs → P (slice_index_or xs k d)
all_at P [] all k d within = absurd (omega arith)
all_at P (x ∷ xs) all zero d within = all.0
all_at P (x ∷ xs) all (suc k) d within = all_at P xs all.1 k d (omega arith)

-- a number that is above each of a list is none of them
pub above_all : (n : ℕ) (xs : List ℕ) → AllByRecursion (λ k. k < n) xs → (k : ℕ) → Contains xs k → k ≢ n
above_all n xs all k here = let below : k < n = subst (λ j. j < n) here.2 (all_at (λ j. j < n) xs all here.0 k here.1) in λ same. absurd (omega arith)
