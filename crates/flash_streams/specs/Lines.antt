-- The lines of bytes.
use Rattle.std.specs.Prelude.{ℕ, ◌==◌, List, [], ◌∷◌, if◌then◌else◌}

-- bytes by their lines: those that a line feed ends, without it, and what is after the last one
pub record Lines : Type 0 where
  pub whole : List (List ℕ)
  pub rest : List ℕ

-- a byte before the first line
abbrev pub in_first_line : ℕ → Lines → Lines
in_first_line b lines = elim lines.whole [
  | [] ↦ record { whole = []; rest = b ∷ lines.rest }
  | line ∷ more ↦ record { whole = (b ∷ line) ∷ more; rest = lines.rest }
]

-- the lines of bytes
abbrev pub lines_of : List ℕ → Lines
lines_of [] = record { whole = []; rest = [] }
lines_of (b ∷ bytes) =
    let lines = lines_of bytes in if b == 10 then record { whole = [] ∷ lines.whole; rest = lines.rest }
    else in_first_line b lines
