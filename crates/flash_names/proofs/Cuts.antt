-- Where bytes are cut, and the words of a line that is cut at its first space.
use Rattle.std.proofs.Common.{◌≡◌, ℕ, zero, suc, ◌+◌, ◌<◌, Bool, true, false, ◌==◌, List, [], ◌∷◌, take, drop, length, Option, None, Some, refl, sym, ◌∙◌, ap, inl, inr, arith, add-one, ◌-◌, length-drop, if◌then◌else◌}
use Rattle.std.proofs.lemmas.Bool.{cases_eq}
use Rattle.std.proofs.lemmas.Bool.Decides.{nat_tests}
use Rattle.std.proofs.lemmas.List.{take_all}
use Rattle.std.specs.Option.{option_map}
use Rattle.memchr.specs.Find.{is_byte, Nowhere, Passes}
use Rattle.flash_names.specs.Cut.{cut_at}
use Rattle.flash_names.specs.Words.{words, in_first}

-- a first byte that is another
cut_past : (c b : ℕ) (bytes : List ℕ) → (b == c) ≡ false → cut_at c (b ∷ bytes) ≡ option_map (λ parts. (b ∷ parts.0, parts.1)) (cut_at c bytes)
cut_past c b bytes other = rw other refl

tail_nowhere : (test : ℕ → Bool) (b : ℕ) (bytes : List ℕ) (k : ℕ) → Nowhere (Passes test (b ∷ bytes)) 0 (suc k) → Nowhere (Passes test bytes) 0 k
tail_nowhere test b bytes k nowhere j low high passes = nowhere (suc j) (omega arith) (omega arith) passes

head_other : (c b : ℕ) (bytes : List ℕ) (k : ℕ) → Nowhere (Passes (is_byte c) (b ∷ bytes)) 0 (suc k) → (b == c) ≡ false
head_other c b bytes k nowhere = elim (cases_eq b c) [
  | inl same ↦ absurd (nowhere 0 (omega arith) (omega arith) (grind (arith, nat_tests)))
  | inr other ↦ grind (arith, nat_tests)
]

pub cut_none : (c : ℕ) (bytes : List ℕ) → Nowhere (Passes (is_byte c) bytes) 0 (length bytes) → cut_at c bytes ≡ None
cut_none c [] nowhere = refl
cut_none c (b ∷ bytes) nowhere =
    cut_past c b bytes (head_other c b bytes (length bytes) nowhere)
    ∙ ap (option_map (λ (parts : List ℕ × List ℕ). (b ∷ parts.0, parts.1))) (cut_none c bytes (tail_nowhere (is_byte c) b bytes (length bytes) nowhere))

pub cut_some : (c : ℕ) (bytes : List ℕ) (k : ℕ) → k < length bytes → Nowhere (Passes (is_byte c) bytes) 0 k → Passes (is_byte c) bytes k → cut_at c bytes ≡ Some (take k bytes, drop (suc k) bytes)
cut_some c [] k high nowhere here = absurd (omega arith)
cut_some c (b ∷ bytes) zero high nowhere here = rw here refl
cut_some c (b ∷ bytes) (suc k) high nowhere here =
    cut_past c b bytes (head_other c b bytes k nowhere)
    ∙ ap (option_map (λ (parts : List ℕ × List ℕ). (b ∷ parts.0, parts.1))) (cut_some c bytes k (omega arith) (tail_nowhere (is_byte c) b bytes k nowhere) here)

-- the words of a line, by how it is cut at its first space
abbrev pub words_cut : List ℕ → Option (List ℕ × List ℕ) → List (List ℕ)
words_cut line None = line ∷ []
words_cut line (Some parts) = parts.0 ∷ words parts.1

with_front : (b : ℕ) (bytes : List ℕ) (cut : Option (List ℕ × List ℕ)) → in_first b (words_cut bytes cut) ≡ words_cut (b ∷ bytes) (option_map (λ parts. (b ∷ parts.0, parts.1)) cut)
with_front b bytes None = refl
with_front b bytes (Some parts) = refl

by_test : (b : ℕ) (bytes : List ℕ) (space : Bool) (cut : Option (List ℕ × List ℕ)) (ws : List (List ℕ)) → ws ≡ words_cut bytes cut
    → (if space then [] ∷ words bytes else in_first b ws) ≡ words_cut (b ∷ bytes) (if space then Some ([], bytes) else option_map (λ parts. (b ∷ parts.0, parts.1)) cut)
by_test b bytes true cut ws is = refl
by_test b bytes false cut ws is = ap (in_first b) is ∙ with_front b bytes cut

pub words-cut : (line : List ℕ) → words line ≡ words_cut line (cut_at 32 line)
words-cut [] = refl
words-cut (b ∷ bytes) = by_test b bytes (b == 32) (cut_at 32 bytes) (words bytes) (words-cut bytes)

-- the two parts round a place, as the code takes them
pub cut_there : (c : ℕ) (bytes : List ℕ) (k : ℕ) → k < length bytes → Nowhere (Passes (is_byte c) bytes) 0 k → Passes (is_byte c) bytes k
    → Some (take k bytes, take (length bytes - (k + 1)) (drop (k + 1) bytes)) ≡ cut_at c bytes
cut_there c bytes k high nowhere here =
    ap (λ (rest : List ℕ). Some (take k bytes, rest)) (take_all (length bytes - (k + 1)) (drop (k + 1) bytes) (omega (arith, length-drop (k + 1) bytes)))
    ∙ ap (λ (n : ℕ). Some (take k bytes, drop n bytes)) (add-one k) ∙ sym (cut_some c bytes k high nowhere here)
