-- The numbers that options take.
use Rattle.std.specs.Prelude.{ℕ, ◌&&◌, ◌==◌, List, ◌∷◌, Option, None, Some, nat_le, option_and_then, if◌then◌else◌}
use Rattle.flash_names.specs.Numbers.{number_of}

-- the number of a word without a sign or a leading zero, but for 0 itself
abbrev pub plain_number : List ℕ → Option ℕ
plain_number (first ∷ second ∷ digits) = if first == 48 then None else number_of (first ∷ second ∷ digits)
plain_number word = number_of word

-- a number, if it lies in this range
abbrev pub if_within : ℕ → ℕ → ℕ → Option ℕ
if_within least most n = if nat_le least n && nat_le n most then Some n else None

-- the number of a word, if it is one of this range
abbrev pub number_within : ℕ → ℕ → List ℕ → Option ℕ
number_within least most word = option_and_then (if_within least most) (plain_number word)
