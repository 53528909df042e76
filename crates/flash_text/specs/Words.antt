-- The words of a line: between two of them are one or more spaces, and spaces at either end don't count.
use Rattle.std.specs.Prelude.{ℕ, ◌==◌, not, nat_eq, List, [], ◌∷◌, filter, length, Option, None, Some, zero, suc, if◌then◌else◌}
use Rattle.flash_names.specs.Words.{words}

-- a line without one carriage return at its end
abbrev pub without_return : List ℕ → List ℕ
without_return [] = []
without_return (b ∷ bytes) = elim bytes [ [] ↦ (if b == 13 then [] else b ∷ []) | c ∷ cs ↦ b ∷ without_return bytes ]

-- the words of a line
abbrev pub spaced_words : List ℕ → List (List ℕ)
spaced_words line = filter (λ w. not (nat_eq (length w) 0)) (words line)

-- a word before those of the bytes behind it, or no words
abbrev pub with_next : Option (List ℕ × List ℕ) → List (List ℕ)
with_next None = []
with_next (Some parts) = parts.0 ∷ spaced_words parts.1

-- a line from its first byte on that isn't a space
abbrev pub from_word : List ℕ → List ℕ
from_word [] = []
from_word (b ∷ bytes) = if b == 32 then from_word bytes else b ∷ bytes

-- the bytes behind the first space
abbrev pub behind_space : List ℕ → List ℕ
behind_space [] = []
behind_space (b ∷ bytes) = if b == 32 then bytes else behind_space bytes

-- the bytes behind the first word and the space that ends it
abbrev pub behind_word : List ℕ → List ℕ
behind_word line = behind_space (from_word line)

-- the bytes behind so many words
abbrev pub behind_words : ℕ → List ℕ → List ℕ
behind_words zero line = line
behind_words (suc n) line = behind_words n (behind_word line)

-- a space where nothing is behind it is left out
abbrev pub unless_last : ℕ → List ℕ → List ℕ
unless_last b [] = if b == 32 then [] else b ∷ []
unless_last b (c ∷ bytes) = b ∷ c ∷ bytes

-- a line up to its last byte that isn't a space
abbrev pub to_word : List ℕ → List ℕ
to_word [] = []
to_word (b ∷ bytes) = unless_last b (to_word bytes)

-- a line from its first word's first byte to its last word's last byte
abbrev pub trimmed : List ℕ → List ℕ
trimmed line = to_word (from_word line)
