-- What a reading has is spelled by the words that it took.
use Rattle.std.proofs.Common.{◌≡◌, ℕ, ◌+◌, ◌==◌, Bool, true, false, List, [], ◌∷◌, ◌++◌, Option, None, Some, Ok, Err, if◌then◌else◌, refl, sym, ◌∙◌, ap, subst, append_assoc, arith}
use Rattle.std.proofs.lemmas.Bool.Decides.{nat_tests}
use Rattle.std.specs.Str.{bytes_eq}
use Rattle.flash_names.specs.Words.{words, in_first}
use Rattle.flash_entry.specs.declared.entry_fault.EntryFault.{EntryFault}
use Rattle.flash_entry.specs.Readings.{Left, Outcome, Reading, and_then, ◌>>=◌, value_or, next_word, first_word}
use Rattle.flash_entry.proofs.FixedLemmas.{same_bytes}

-- words, each with the space before it
abbrev pub spaced : List (List ℕ) → List ℕ
spaced [] = []
spaced (w ∷ ws) = 32 ∷ (w ++ spaced ws)

spaced-in_first : (b : ℕ) (ws : List (List ℕ)) (bytes : List ℕ) → spaced ws ≡ 32 ∷ bytes
    → spaced (in_first b ws) ≡ 32 ∷ b ∷ bytes
spaced-in_first b [] bytes is = cc is
spaced-in_first b (w ∷ ws) bytes is = cc is

by_space : (b : ℕ) (ws : List (List ℕ)) (bytes : List ℕ) (space : Bool) → (b == 32) ≡ space → spaced ws ≡ 32 ∷ bytes
    → spaced (if space then [] ∷ ws else in_first b ws) ≡ 32 ∷ b ∷ bytes
by_space b ws bytes true at is = let same : b ≡ 32 = grind (arith, nat_tests, at) in cc
by_space b ws bytes false at is = spaced-in_first b ws bytes is

-- the words of a line are the line
pub spaced-words : (line : List ℕ) → spaced (words line) ≡ 32 ∷ line
spaced-words [] = refl
spaced-words (b ∷ bytes) = by_space b (words bytes) bytes (b == 32) refl (spaced-words bytes)

-- the bytes are this text and what is left
pub record Begin (bytes text : List ℕ) (left : Left) : Type 0 where
  pub is : bytes ≡ text ++ spaced left.words

-- what was read is in range, and its text and what is left are the bytes
pub record Sound {A : Type 0} (text : A → List ℕ) (IsIn : A → Type 0) (bytes : List ℕ) (outcome : Outcome A) : Type 0 where
  pub holds : (value : A) (left : Left) → outcome ≡ Ok (value, left) → Begin bytes (text value) left × IsIn value

-- the same wherever the reading begins
pub record IsSound {A : Type 0} (text : A → List ℕ) (IsIn : A → Type 0) (reading : Reading A) : Type 0 where
  pub from : (left : Left) → Sound text IsIn (spaced left.words) (reading left)

given_at : {A : Type 0} (text : A → List ℕ) (IsIn : A → Type 0) (bytes : List ℕ) (read other : A × Left)
    → Begin bytes (text read.0) read.1 → IsIn read.0 → read ≡ other
    → Begin bytes (text other.0) other.1 × IsIn other.0
given_at {A = A} text IsIn bytes read other begin is_in same =
    subst (λ (r : A × Left). Begin bytes (text r.0) r.1 × IsIn r.0) same (begin, is_in)

pub given : {A : Type 0} {text : A → List ℕ} {IsIn : A → Type 0} {bytes : List ℕ} {value : A} {left : Left}
    → Begin bytes (text value) left → IsIn value → Sound text IsIn bytes (Ok (value, left))
given {text = text} {IsIn = IsIn} {bytes = bytes} {value = value} {left = left} begin is_in =
    record { holds = λ v l is. given_at text IsIn bytes (value, left) (v, l) begin is_in (cc is) }

then_at : {A B : Type 0} (text : A → List ℕ) (IsIn : A → Type 0) (out : B → List ℕ) (IsOut : B → Type 0)
    (bytes front : List ℕ) (left : Left) (outcome : Outcome A) (next : A → Reading B)
    → Sound text IsIn (spaced left.words) outcome → Begin bytes front left
    → ((value : A) (rest : Left) → Begin bytes (front ++ text value) rest → IsIn value → Sound out IsOut bytes (next value rest))
    → Sound out IsOut bytes (and_then outcome next)
then_at text IsIn out IsOut bytes front left (Ok read) next first begin more =
    let at = first.holds read.0 read.1 refl in
    more read.0 read.1 (record { is = begin.is ∙ ap (λ (l : List ℕ). front ++ l) at.0.is ∙ sym (append_assoc front (text read.0) (spaced read.1.words)) }) at.1
then_at text IsIn out IsOut bytes front left (Err fault) next first begin more = record { holds = λ value rest is. absurd (cc is) }

-- a sound reading after this text, and what comes after it
pub goes_on : {A B : Type 0} {text : A → List ℕ} {IsIn : A → Type 0} {first : Reading A} {out : B → List ℕ}
    {IsOut : B → Type 0} {bytes front : List ℕ} {left : Left} {next : A → Reading B}
    → IsSound text IsIn first → Begin bytes front left
    → ((value : A) (rest : Left) → Begin bytes (front ++ text value) rest → IsIn value → Sound out IsOut bytes (next value rest))
    → Sound out IsOut bytes (and_then (first left) next)
goes_on {text = text} {IsIn = IsIn} {first = first} {out = out} {IsOut = IsOut} {bytes = bytes} {front = front} {left = left} {next = next} sound begin more =
    then_at text IsIn out IsOut bytes front left (first left) next (sound.from left) begin more

-- nothing was taken yet
pub at_start : (left : Left) → Begin (spaced left.words) [] left
at_start left = record { is = refl }

pub sound_or : {A : Type 0} (text : A → List ℕ) (IsIn : A → Type 0) (bytes : List ℕ) (value : Option A)
    (bad : ℕ → EntryFault) (left : Left)
    → ((v : A) → value ≡ Some v → Begin bytes (text v) left × IsIn v)
    → Sound text IsIn bytes (value_or value bad left)
sound_or text IsIn bytes None bad left each = record { holds = λ v l is. absurd (cc is) }
sound_or text IsIn bytes (Some v) bad left each = let at = each v refl in given at.0 at.1

one_of_words : {A : Type 0} (text : A → List ℕ) (IsIn : A → Type 0) (value_of : List ℕ → Option A)
    (bad : ℕ → EntryFault) (ws : List (List ℕ)) (place : ℕ)
    → ((w : List ℕ) (v : A) → value_of w ≡ Some v → (text v ≡ 32 ∷ w) × IsIn v)
    → Sound text IsIn (spaced ws) (and_then (first_word ws place) (λ word. value_or (value_of word) bad))
one_of_words text IsIn value_of bad [] place each = record { holds = λ v l is. absurd (cc is) }
one_of_words text IsIn value_of bad (w ∷ ws) place each =
    sound_or text IsIn (spaced (w ∷ ws)) (value_of w) bad (record { words = ws; place = place + 1 }) (λ v is.
    let at = each w v is in
    (record { is = ap (λ (l : List ℕ). l ++ spaced ws) (sym at.0) }, at.1))

-- a word that stands for a value is the value's text
pub one_word : {A : Type 0} {text : A → List ℕ} {IsIn : A → Type 0} (value_of : List ℕ → Option A)
    (bad : ℕ → EntryFault)
    → ((w : List ℕ) (v : A) → value_of w ≡ Some v → (text v ≡ 32 ∷ w) × IsIn v)
    → IsSound text IsIn (next_word >>= (λ word. value_or (value_of word) bad))
unfolding next_word
one_word {text = text} {IsIn = IsIn} value_of bad each = record { from = λ left. one_of_words text IsIn value_of bad left.words left.place each }

next_of : (ws : List (List ℕ)) (place : ℕ) → Sound (λ w. 32 ∷ w) (λ _. Unit {0}) (spaced ws) (first_word ws place)
next_of [] place = record { holds = λ v l is. absurd (cc is) }
next_of (w ∷ ws) place = given (record { is = refl }) tt

-- any word is its own text
pub next_word-sound : IsSound (λ w. 32 ∷ w) (λ _. Unit {0}) next_word
unfolding next_word
next_word-sound = record { from = λ left. next_of left.words left.place }

sound_if_at : {A : Type 0} (text : A → List ℕ) (IsIn : A → Type 0) (bytes : List ℕ) (test : Bool)
    (first other : Reading A) (left : Left)
    → (test ≡ true → Sound text IsIn bytes (first left)) → Sound text IsIn bytes (other left)
    → Sound text IsIn bytes ((if test then first else other) left)
sound_if_at text IsIn bytes true first other left here there = here refl
sound_if_at text IsIn bytes false first other left here there = there

-- one reading after this word, and another after any other
pub sound_if : {A : Type 0} (text : A → List ℕ) (IsIn : A → Type 0) (bytes w c : List ℕ) (first other : Reading A)
    (left : Left)
    → Begin bytes (32 ∷ w) left
    → (Begin bytes (32 ∷ c) left → Sound text IsIn bytes (first left)) → Sound text IsIn bytes (other left)
    → Sound text IsIn bytes ((if bytes_eq w c then first else other) left)
sound_if text IsIn bytes w c first other left begin here there =
    sound_if_at text IsIn bytes (bytes_eq w c) first other left
    (λ is. here (record { is = begin.is ∙ ap (λ (l : List ℕ). (32 ∷ l) ++ spaced left.words) (same_bytes w c is) })) there

-- the same text written otherwise
pub begin_as : {bytes text other : List ℕ} {left : Left} → text ≡ other → Begin bytes text left → Begin bytes other left
begin_as {left = left} same at = record { is = at.is ∙ ap (λ (l : List ℕ). l ++ spaced left.words) same }
