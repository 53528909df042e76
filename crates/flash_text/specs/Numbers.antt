-- Numbers of a line: 1 to 20 digits, leading zeros allowed.
use Rattle.std.specs.Prelude.{ℕ, ℤ, pos, ◌==◌, nat_le, List, [], ◌∷◌, length, Option, None, if◌then◌else◌, neg_ℤ}
use Rattle.std.specs.Option.{option_map}
use Rattle.flash_names.specs.Numbers.{number_of, if_below}

-- a number below a limit
abbrev pub number_below : ℕ → List ℕ → Option ℕ
number_below limit word = if_below limit (number_of word)

-- a number of at most 18 digits
abbrev pub seconds_of : List ℕ → Option ℕ
seconds_of word = if nat_le (length word) 18 then number_of word else None

-- a flush delay: at most 18 digits and no sign
abbrev pub delay_of : List ℕ → Option ℤ
delay_of word = option_map pos (seconds_of word)

-- an exptime: at most 18 digits, and a sign before them where it is negative
abbrev pub exptime_of : List ℕ → Option ℤ
exptime_of [] = None
exptime_of (b ∷ word) =
    if b == 45 then option_map (λ n. neg_ℤ (pos n)) (seconds_of word) else delay_of (b ∷ word)
