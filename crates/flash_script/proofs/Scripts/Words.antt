-- What is after the words of a line.
use Rattle.std.proofs.Common.{◌≡◌, ℕ, ◌+◌, ◌-◌, ◌≤◌, Bool, true, false, ◌==◌, List, [], ◌∷◌, ◌++◌, length, take, drop, if◌then◌else◌, slice_range, refl, sym, ◌∙◌, ap, arith, append_assoc, length-append, length-take-le, length-drop, take-add, drop_at}
use Rattle.std.proofs.lemmas.Bool.Decides.{nat_tests}
use Rattle.std.proofs.lemmas.Slice.{between_is}
use Rattle.flash_names.specs.Words.{words, in_first}
use Rattle.flash_script.specs.Scripts.{behind_word}

-- words with a space before each
abbrev spaced : List (List ℕ) → List ℕ
spaced [] = []
spaced (w ∷ ws) = 32 ∷ (w ++ spaced ws)

-- a byte before the first of these words
spaced_first : (b : ℕ) (bytes : List ℕ) (ws : List (List ℕ)) → spaced ws ≡ 32 ∷ bytes → spaced (in_first b ws) ≡ 32 ∷ b ∷ bytes
spaced_first b bytes [] is = absurd (cc is)
spaced_first b bytes (w ∷ ws) is = let tail : w ++ spaced ws ≡ bytes = cc in cc

-- a byte before a line
spaced_more : (b : ℕ) (bytes : List ℕ) (space : Bool) → (b == 32) ≡ space → spaced (words bytes) ≡ 32 ∷ bytes
    → spaced (if space then [] ∷ words bytes else in_first b (words bytes)) ≡ 32 ∷ b ∷ bytes
spaced_more b bytes true test rest = let same : b ≡ 32 = grind (arith, nat_tests) in cc
spaced_more b bytes false test rest = spaced_first b bytes (words bytes) rest

-- the words of a line make the line
spaced-words : (bytes : List ℕ) → spaced (words bytes) ≡ 32 ∷ bytes
spaced-words [] = refl
spaced-words (b ∷ bytes) = spaced_more b bytes (b == 32) refl (spaced-words bytes)

-- lines of the same words are the same
words_same : (a b : List ℕ) → words a ≡ words b → a ≡ b
words_same a b same = let e = ap spaced same in let p = spaced-words a in let q = spaced-words b in cc

-- a line has at least one word
pub no_words : (bytes : List ℕ) → words bytes ≡ [] → ⊥
no_words bytes none = let e = ap spaced none in let p = spaced-words bytes in cc

-- that these words are after the first one of the line means that their bytes are after its first space
abbrev BehindFirst : List ℕ → Type 0
BehindFirst line = (word rest : List ℕ) → words line ≡ word ∷ words rest → behind_word line ≡ rest

-- the same of a line with a byte in front that is no space
behind_in_first : (b : ℕ) (bytes word rest : List ℕ) (ws : List (List ℕ)) → BehindFirst bytes → words bytes ≡ ws → in_first b ws ≡ word ∷ words rest → behind_word bytes ≡ rest
behind_in_first b bytes word rest [] more here is = absurd (no_words bytes here)
behind_in_first b bytes word rest (w ∷ ws) more here is = let same : ws ≡ words rest = cc in more w rest (cc)

-- and of a line with a byte in front
behind_more : (b : ℕ) (bytes word rest : List ℕ) (space : Bool) → BehindFirst bytes → (if space then [] ∷ words bytes else in_first b (words bytes)) ≡ word ∷ words rest
    → (if space then bytes else behind_word bytes) ≡ rest
behind_more b bytes word rest true more is = words_same bytes rest (cc)
behind_more b bytes word rest false more is = behind_in_first b bytes word rest (words bytes) more refl is

-- it is so for every line
pub behind_first : (line : List ℕ) → BehindFirst line
behind_first [] word rest is = absurd (no_words rest (cc))
behind_first (b ∷ bytes) word rest is = behind_more b bytes word rest (b == 32) (behind_first bytes) is

-- the bytes end so
abbrev pub IsEnd : List ℕ → List ℕ → Type 0
IsEnd ending bytes = (front : List ℕ) × (bytes ≡ front ++ ending)

-- what is after the first space, with a byte before the line
end_more : (b : ℕ) (bytes : List ℕ) (space : Bool) → IsEnd (behind_word bytes) bytes → IsEnd (if space then bytes else behind_word bytes) (b ∷ bytes)
end_more b bytes true more = (b ∷ [], refl)
end_more b bytes false more = (b ∷ more.0, ap (λ (l : List ℕ). b ∷ l) more.1)

-- what is after the first space ends the line
end_behind : (line : List ℕ) → IsEnd (behind_word line) line
end_behind [] = ([], refl)
end_behind (b ∷ bytes) = end_more b bytes (b == 32) (end_behind bytes)

-- what is after the second space ends the line
pub end_twice : (line : List ℕ) → IsEnd (behind_word (behind_word line)) line
end_twice line =
    let outer = end_behind line in let inner = end_behind (behind_word line) in
    (outer.0 ++ inner.0, outer.1 ∙ ap (λ (l : List ℕ). outer.0 ++ l) inner.1 ∙ sym (append_assoc outer.0 inner.0 (behind_word (behind_word line))))

module _ (bytes ending : List ℕ) (start last : ℕ) (order : start ≤ last) (within : last ≤ length bytes) (e : IsEnd ending (slice_range bytes start last)) where
  -- what ends the bytes between two places is no longer than they are
  pub end_length : length e.0 + length ending ≡ last - start
  end_length = omega (arith, ap length e.1, length-append e.0 ending, length-take-le (last - start) (drop start bytes) (omega (arith, length-drop start bytes)))

  -- the bytes up to the second place, in three parts
  split : take last bytes ≡ (take start bytes ++ e.0) ++ ending
  split =
      let parts : last ≡ start + (last - start) = omega arith in
      ap (λ (n : ℕ). take n bytes) parts ∙ take-add start (last - start) bytes ∙ ap (λ (l : List ℕ). take start bytes ++ l) e.1
      ∙ sym (append_assoc (take start bytes) e.0 ending)

  -- and is before the second place
  pub end_between : slice_range bytes (last - length ending) last ≡ ending
  end_between =
      between_is bytes (last - length ending) last ∙ ap (drop (last - length ending)) split
      ∙ drop_at (take start bytes ++ e.0) ending (last - length ending) (omega (arith, length-append (take start bytes) e.0, length-take-le start bytes (omega arith), end_length))
