-- The words of the bytes from a line's first key to its last.
use Rattle.std.proofs.Common.{◌≡◌, ℕ, zero, suc, ◌≤◌, Bool, true, false, ◌==◌, ◌&&◌, cond, not, nat_le, nat_lt, nat_eq, List, [], ◌∷◌, ◌++◌, filter, length, if◌then◌else◌, refl, sym, ◌∙◌, ap, subst, arith}
use Rattle.std.specs.List.{list_all}
use Rattle.std.proofs.lemmas.Bool.Decides.{nat_tests}
use Rattle.std.proofs.lemmas.List.{append-nil}
use Rattle.std.proofs.lemmas.List.Elements.{filter-append}
use Rattle.flash_names.specs.Cut.{cut_at}
use Rattle.flash_names.specs.Words.{words, in_first}
use Rattle.flash_lanes.specs.KeyBytes.{is_key_byte}
use Rattle.flash_text.specs.Words.{spaced_words, from_word, behind_space, behind_word, unless_last, to_word, trimmed}
use Rattle.flash_text.specs.Keys.{is_key}
use Rattle.flash_text.proofs.WordLemmas.{is_word, same_words, begins_a_word, BeginsAWord, first_word, front, back, behind_cut}

-- so many words without bytes
abbrev empties : ℕ → List (List ℕ)
empties zero = []
empties (suc n) = [] ∷ empties n

none_kept : (n : ℕ) → filter is_word (empties n) ≡ []
none_kept zero = refl
none_kept (suc n) = none_kept n

first_append : (b : ℕ) (ws more : List (List ℕ)) → 1 ≤ length ws → in_first b (ws ++ more) ≡ in_first b ws ++ more
first_append b [] more some = absurd (omega arith)
first_append b (w ∷ ws) more some = refl

first_some : (b : ℕ) (ws : List (List ℕ)) → 1 ≤ length (in_first b ws)
first_some b [] = omega arith
first_some b (w ∷ ws) = omega arith

some_by : (b : ℕ) (bytes : List ℕ) (test : Bool) → 1 ≤ length (if test then [] ∷ words bytes else in_first b (words bytes))
some_by b bytes true = omega arith
some_by b bytes false = first_some b (words bytes)

some_words : (bytes : List ℕ) → 1 ≤ length (words bytes)
some_words [] = omega arith
some_words (b ∷ bytes) = some_by b bytes (b == 32)

-- the words of one byte more, by whether it is a space
abbrev more_words : ℕ → Bool → List (List ℕ) → List (List ℕ)
more_words b test ws = if test then [] ∷ ws else in_first b ws

-- one byte more at the front of a line without spaces at its end
abbrev unless : ℕ → Bool → List ℕ → List ℕ
unless b test [] = if test then [] else b ∷ []
unless b test (c ∷ bytes) = b ∷ c ∷ bytes

unless_is : (b : ℕ) (bytes : List ℕ) → unless b (b == 32) bytes ≡ unless_last b bytes
unless_is b [] = refl
unless_is b (c ∷ bytes) = refl

-- these are the words of the line, and then words without bytes
abbrev Ends : List (List ℕ) → List ℕ → Type 0
Ends ws line = (n : ℕ) × (ws ≡ words line ++ empties n)

ends_at : (b : ℕ) (ws : List (List ℕ)) (line : List ℕ) (test : Bool) → (b == 32) ≡ test → Ends ws line → Ends (more_words b test ws) (unless b test line)
ends_at b ws [] true is ends = (suc ends.0, ap (λ (w : List (List ℕ)). [] ∷ w) ends.1)
ends_at b ws [] false is ends =
    let one : words (b ∷ []) ≡ (b ∷ []) ∷ [] = ap (λ (test : Bool). more_words b test ([] ∷ [])) is in
    (ends.0, ap (in_first b) ends.1 ∙ ap (λ (w : List (List ℕ)). w ++ empties ends.0) (sym one))
ends_at b ws (c ∷ bytes) true is ends =
    let more : words (b ∷ c ∷ bytes) ≡ [] ∷ words (c ∷ bytes) = ap (λ (test : Bool). more_words b test (words (c ∷ bytes))) is in
    (ends.0, ap (λ (w : List (List ℕ)). [] ∷ w) ends.1 ∙ ap (λ (w : List (List ℕ)). w ++ empties ends.0) (sym more))
ends_at b ws (c ∷ bytes) false is ends =
    let more : words (b ∷ c ∷ bytes) ≡ in_first b (words (c ∷ bytes)) = ap (λ (test : Bool). more_words b test (words (c ∷ bytes))) is in
    (ends.0, ap (in_first b) ends.1 ∙ first_append b (words (c ∷ bytes)) (empties ends.0) (some_words (c ∷ bytes)) ∙ ap (λ (w : List (List ℕ)). w ++ empties ends.0) (sym more))

ends : (bytes : List ℕ) → Ends (words bytes) (to_word bytes)
ends [] = (zero, refl)
ends (b ∷ bytes) = subst (Ends (words (b ∷ bytes))) (unless_is b (to_word bytes)) (ends_at b (words bytes) (to_word bytes) (b == 32) refl (ends bytes))

to_word_words : (bytes : List ℕ) → spaced_words (to_word bytes) ≡ spaced_words bytes
to_word_words bytes =
    let end = ends bytes in
    sym (ap (filter is_word) end.1 ∙ filter-append is_word (words (to_word bytes)) (empties end.0)
    ∙ ap (λ (w : List (List ℕ)). spaced_words (to_word bytes) ++ w) (none_kept end.0) ∙ append-nil (spaced_words (to_word bytes)))

-- a line that is trimmed has the same words
pub trimmed_words : (line : List ℕ) → spaced_words (trimmed line) ≡ spaced_words line
trimmed_words line = to_word_words (from_word line) ∙ same_words line

behind_from : (line : List ℕ) (word : List ℕ) (rest : List (List ℕ)) → BeginsAWord line → spaced_words line ≡ word ∷ rest → spaced_words (behind_space line) ≡ rest
behind_from [] word rest begins is = absurd (cc is)
behind_from (b ∷ bytes) word rest begins is =
    let first = first_word (b ∷ bytes) (omega arith) begins in
    let both : word ∷ rest ≡ front (b ∷ bytes) (cut_at 32 (b ∷ bytes)) ∷ spaced_words (back (cut_at 32 (b ∷ bytes))) = sym is ∙ first in
    let same : spaced_words (back (cut_at 32 (b ∷ bytes))) ≡ rest = cc both in
    ap spaced_words (behind_cut (b ∷ bytes)) ∙ same

-- behind a line's first word are its other words
pub behind_words_of : (line : List ℕ) (word : List ℕ) (rest : List (List ℕ)) → spaced_words line ≡ word ∷ rest → spaced_words (behind_word line) ≡ rest
behind_words_of line word rest is = behind_from (from_word line) word rest (begins_a_word line) (same_words line ∙ is)

-- each of two tests holds
pub both_hold : (a b : Bool) → (a && b) ≡ true → (a ≡ true) × (b ≡ true)
both_hold true b is = (refl, is)
both_hold false b is = absurd (cc is)

no_space : (b : ℕ) → is_key_byte b ≡ true → (b == 32) ≡ false
no_space b is = let parts = both_hold (nat_lt 32 b) (not (nat_eq b 127)) is in let above = parts.0 in grind (arith, nat_tests)

one_word : (bytes : List ℕ) → list_all is_key_byte bytes ≡ true → words bytes ≡ bytes ∷ []
one_word [] is = refl
one_word (b ∷ bytes) is =
    let parts = both_hold (is_key_byte b) (list_all is_key_byte bytes) is in
    ap (λ (test : Bool). more_words b test (words bytes)) (no_space b parts.0) ∙ ap (in_first b) (one_word bytes parts.1)

key_by : (word : List ℕ) → 1 ≤ length word → list_all is_key_byte word ≡ true → spaced_words word ≡ word ∷ []
key_by word some is =
    let kept : is_word word ≡ true = grind (arith, nat_tests) in
    ap (filter is_word) (one_word word is) ∙ ap (λ (test : Bool). cond test (word ∷ []) []) kept

-- a key is one word
pub key_words : (word : List ℕ) → is_key word ≡ true → spaced_words word ≡ word ∷ []
key_words word is =
    let parts = both_hold _ (list_all is_key_byte word) is in
    let lengths = both_hold (nat_le 1 (length word)) (nat_le (length word) 250) parts.0 in
    let least = lengths.0 in
    key_by word (grind (arith, nat_tests)) parts.1
