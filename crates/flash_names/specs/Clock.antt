-- The readings of a clock over a list of numbers.
use Rattle.std.specs.Prelude.{◌≡◌, ◌⊎◌, ℕ, zero, suc, ◌-◌, List, [], ◌∷◌, ◌++◌, length, slice_index, min, Option, None}
use Rattle.flash_names.specs.Told.{with_more}

-- a call of the clock told this number after those that it had told, or it tells nothing from then on
abbrev pub Reads : Option (List ℕ) → ℕ → Option (List ℕ) → Type 0
Reads before reading now = (now ≡ None) ⊎ (now ≡ with_more (reading ∷ []) before)

-- the n-th reading of these numbers, counted from 0: the last is repeated, and where there is none it is 0
abbrev pub reading_at : List ℕ → ℕ → ℕ
reading_at numbers n = slice_index numbers (min n (length numbers - 1))

-- the first n readings
abbrev pub readings : List ℕ → ℕ → List ℕ
readings numbers zero = []
readings numbers (suc n) = readings numbers n ++ reading_at numbers n ∷ []
