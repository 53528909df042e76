-- Lines of words with one space between two.
use Rattle.std.specs.Prelude.{ℕ, List, [], ◌∷◌, Option, None, Some, ◌==◌, if◌then◌else◌}

-- the byte before the first word
abbrev pub in_first : ℕ → List (List ℕ) → List (List ℕ)
in_first b [] = (b ∷ []) ∷ []
in_first b (w ∷ ws) = (b ∷ w) ∷ ws

-- the words of a line: two spaces have an empty word between them, and no bytes are one empty word
abbrev pub words : List ℕ → List (List ℕ)
words [] = [] ∷ []
words (b ∷ bytes) = if b == 32 then [] ∷ words bytes else in_first b (words bytes)

-- the words after a space, where there is one
abbrev pub words_if : Option (List ℕ) → List (List ℕ)
words_if None = []
words_if (Some bytes) = words bytes
