-- The word of `check` on the command line.
use Rattle.std.specs.Prelude.{ℕ, Bool, false, List, [], ◌∷◌, codes}
use Rattle.std.specs.Str.{bytes_eq}

-- whether the words are `check`, and nothing after it
abbrev pub asks_check : List (List ℕ) → Bool
asks_check [] = false
asks_check (word ∷ []) = bytes_eq word (codes "check")
asks_check (word ∷ next ∷ more) = false
