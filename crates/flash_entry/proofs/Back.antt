-- What is spelled is read back.
use Rattle.std.proofs.Common.{◌≡◌, ℕ, ◌+◌, List, [], ◌∷◌, ◌++◌, length, Option, Some, Ok, refl, sym, ◌∙◌, ap, append_assoc, append-nil, length-append, arith}
use Rattle.flash_entry.specs.declared.entry_fault.EntryFault.{EntryFault}
use Rattle.flash_entry.specs.Readings.{Left, Reading, and_then, give, value_or, next_word}
use Rattle.flash_names.specs.Words.{words}
use Rattle.flash_entry.proofs.GeometryLineWords.{IsOneWord, words-one, words-append}
use Rattle.flash_entry.proofs.Sound.{spaced}

-- these words at this place
abbrev pub left_at : List (List ℕ) → ℕ → Left
left_at words place = record { words = words; place = place }

-- no word has a space
abbrev pub AreWords : List (List ℕ) → Type 0
AreWords [] = Unit {0}
AreWords (w ∷ ws) = IsOneWord w × AreWords ws

AreWords-append : (ws vs : List (List ℕ)) → AreWords ws → AreWords vs → AreWords (ws ++ vs)
AreWords-append [] vs one ones = ones
AreWords-append (w ∷ ws) vs one ones = (one.0, AreWords-append ws vs one.1 ones)

spaced-append : (ws vs : List (List ℕ)) → spaced (ws ++ vs) ≡ spaced ws ++ spaced vs
spaced-append [] vs = refl
spaced-append (w ∷ ws) vs =
    ap (λ (l : List ℕ). 32 ∷ (w ++ l)) (spaced-append ws vs) ∙ ap (λ (l : List ℕ). 32 ∷ l) (sym (append_assoc w (spaced ws) (spaced vs)))

-- the text's words are read as the value
pub record ReadsBack {A : Type 0} (reading : Reading A) (text : List ℕ) (value : A) : Type 0 where
  pub words : List (List ℕ)
  pub spelled : text ≡ spaced words
  pub one : AreWords words
  pub read : (more : List (List ℕ)) (place : ℕ) → reading (left_at (words ++ more) place) ≡ Ok (value, left_at more (place + length words))

then_reads : {A B : Type 0} (first : Reading A) (next : A → Reading B) (value : A) (out : B)
    (ws vs more : List (List ℕ)) (place : ℕ)
    → first (left_at (ws ++ (vs ++ more)) place) ≡ Ok (value, left_at (vs ++ more) (place + length ws))
    → next value (left_at (vs ++ more) (place + length ws)) ≡ Ok (out, left_at more (place + length ws + length vs))
    → and_then (first (left_at ((ws ++ vs) ++ more) place)) next ≡ Ok (out, left_at more (place + length (ws ++ vs)))
then_reads first next value out ws vs more place is then_is =
    let count : place + length ws + length vs ≡ place + length (ws ++ vs) = omega (arith, length-append ws vs) in
    ap (λ (l : List (List ℕ)). and_then (first (left_at l place)) next) (append_assoc ws vs more)
    ∙ ap (λ o. and_then o next) is ∙ then_is ∙ ap (λ (n : ℕ). Ok (out, left_at more n)) count

-- a text and these after it
abbrev pub with_parts : List ℕ → List (List ℕ) → List ℕ
with_parts text [] = text
with_parts text (part ∷ parts) = with_parts (text ++ part) parts

-- the words of these texts, one after the other, are read as the value
pub record ReadsParts {A : Type 0} (reading : Reading A) (parts : List (List ℕ)) (value : A) : Type 0 where
  pub words : List (List ℕ)
  pub spelled : (front : List ℕ) → with_parts front parts ≡ front ++ spaced words
  pub one : AreWords words
  pub read : (more : List (List ℕ)) (place : ℕ) → reading (left_at (words ++ more) place) ≡ Ok (value, left_at more (place + length words))

spelled_after : (front text : List ℕ) (parts ws vs : List (List ℕ)) → text ≡ spaced ws
    → with_parts (front ++ text) parts ≡ (front ++ text) ++ spaced vs
    → with_parts front (text ∷ parts) ≡ front ++ spaced (ws ++ vs)
spelled_after front text parts ws vs is more =
    more ∙ append_assoc front text (spaced vs) ∙ ap (λ (l : List ℕ). front ++ (l ++ spaced vs)) is ∙ ap (λ (l : List ℕ). front ++ l) (sym (spaced-append ws vs))

-- a text, and those after it
pub also : {A B : Type 0} {first : Reading A} {text : List ℕ} {value : A} {parts : List (List ℕ)} {out : B}
    (next : A → Reading B)
    → ReadsBack first text value → ReadsParts (next value) parts out
    → ReadsParts (λ left. and_then (first left) next) (text ∷ parts) out
also {first = first} {text = text} {value = value} {parts = parts} {out = out} next a b =
    record {
      words = a.words ++ b.words;
      spelled = λ front. spelled_after front text parts a.words b.words a.spelled (b.spelled (front ++ text));
      one = AreWords-append a.words b.words a.one b.one;
      read = λ more place. then_reads first next value out a.words b.words more place (a.read (b.words ++ more) place) (b.read more (place + length a.words));
    }

-- no text
pub nothing : {A : Type 0} {value : A} → ReadsParts (give value) [] value
nothing {value = value} =
    record {
      words = [];
      spelled = λ front. sym (append-nil front);
      one = tt;
      read = λ more place. let same : place ≡ place + 0 = omega arith in ap (λ (n : ℕ). Ok (value, left_at more n)) same;
    }

-- the texts as one
pub in_order : {A : Type 0} {reading : Reading A} {text : List ℕ} {parts : List (List ℕ)} {value : A}
    → ReadsParts reading (text ∷ parts) value → ReadsBack reading (with_parts text parts) value
in_order a = record { words = a.words; spelled = a.spelled []; one = a.one; read = a.read }

-- the same text written otherwise
pub as_text : {A : Type 0} {reading : Reading A} {text other : List ℕ} {value : A} → text ≡ other
    → ReadsBack reading text value → ReadsBack reading other value
as_text same a = record { words = a.words; spelled = sym same ∙ a.spelled; one = a.one; read = a.read }

-- a word that has a value
pub one_back : {A : Type 0} {value : A} (value_of : List ℕ → Option A) (bad : ℕ → EntryFault) (w : List ℕ)
    → IsOneWord w → value_of w ≡ Some value
    → ReadsBack (λ left. and_then (next_word left) (λ word. value_or (value_of word) bad)) (32 ∷ w) value
unfolding next_word
one_back {value = value} value_of bad w one is =
    record {
      words = w ∷ [];
      spelled = ap (λ (l : List ℕ). 32 ∷ l) (sym (append-nil w));
      one = (one, tt);
      read = λ more place. ap (λ o. value_or o bad (left_at more (place + 1))) is;
    }

-- any word
pub next_word-back : (w : List ℕ) → IsOneWord w → ReadsBack next_word (32 ∷ w) w
unfolding next_word
next_word-back w one =
    record { words = w ∷ []; spelled = ap (λ (l : List ℕ). 32 ∷ l) (sym (append-nil w)); one = (one, tt); read = λ more place. refl }

-- words with a space before each are those of the line
pub words-spaced : (w : List ℕ) (ws : List (List ℕ)) → IsOneWord w → AreWords ws → words (w ++ spaced ws) ≡ w ∷ ws
words-spaced w [] one ones = ap words (append-nil w) ∙ words-one w one
words-spaced w (v ∷ vs) one ones =
    words-append w (v ++ spaced vs) ∙ ap (λ (l : List (List ℕ)). l ++ words (v ++ spaced vs)) (words-one w one)
    ∙ ap (λ (l : List (List ℕ)). w ∷ l) (words-spaced v vs ones.0 ones.1)
