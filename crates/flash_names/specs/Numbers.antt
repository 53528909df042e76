-- Decimal numbers as they are read: 1 to 20 digits, leading zeros allowed, below 2^64.
use Rattle.std.specs.Prelude.{ℕ, ◌+◌, ◌-◌, ◌*◌, ◌^◌, Bool, ◌&&◌, nat_le, nat_lt, List, [], ◌∷◌, length, Option, None, Some, if◌then◌else◌}

-- a byte from `0` to `9`
abbrev pub is_digit : ℕ → Bool
is_digit b = nat_le 48 b && nat_le b 57

-- the number of these digits after those of n, where all are digits
abbrev pub value_from : ℕ → List ℕ → Option ℕ
value_from n [] = Some n
value_from n (b ∷ bytes) = if is_digit b then value_from (10 * n + (b - 48)) bytes else None

-- a number that is below the limit
abbrev pub if_below : ℕ → Option ℕ → Option ℕ
if_below limit None = None
if_below limit (Some n) = if nat_lt n limit then Some n else None

-- the number of a word, where it is one
abbrev pub number_of : List ℕ → Option ℕ
number_of bytes =
    if nat_le 1 (length bytes) && nat_le (length bytes) 20 then if_below (2 ^ 64) (value_from 0 bytes) else None
