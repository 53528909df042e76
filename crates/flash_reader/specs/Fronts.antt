-- The code's fronts, as those of the definition.
use Rattle.std.specs.Prelude.{ℕ, ◌-◌, nat_lt, List, [], ◌∷◌, length, take, drop, Option, None, Some, if◌then◌else◌}
use Rattle.flash_commands.specs.Parts as parts
use Rattle.flash_reader.specs.declared.front.Asked.{Asked}
use Rattle.flash_reader.specs.declared.front.Asked.TheVariants.{Asks, Refused, Nothing}
use Rattle.flash_reader.specs.declared.front.Front.{Front}
use Rattle.flash_reader.specs.declared.front.TheConstants.{LINE_LIMIT}

-- what is asked
abbrev pub asked_said : Asked → List parts.Asked
asked_said (Asks command block) = parts.Asks command block.now ∷ []
asked_said (Refused refusal) = parts.Refused refusal ∷ []
asked_said Nothing = []

-- the front, if there is one
abbrev pub front_said : Option Front → parts.Front
front_said None = parts.Rest
front_said (Some front) = parts.Takes (asked_said front.asked) front.bytes front.next

-- the cut of bytes by the length of their first line
abbrev pub line_cut : List ℕ → Option ℕ → parts.Cut
line_cut bytes (Some n) = parts.Feed (take (n - 1) bytes) (drop n bytes)
line_cut bytes None = if nat_lt (length bytes) LINE_LIMIT then parts.Lacking else parts.Over
