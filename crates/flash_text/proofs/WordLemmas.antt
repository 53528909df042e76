-- The words of a line, one after the other.
use Rattle.std.proofs.Common.{◌≡◌, ℕ, suc, ◌+◌, ◌≤◌, Bool, true, false, ◌==◌, cond, not, nat_eq, nat_lt, List, [], ◌∷◌, filter, drop, length, Option, None, Some, if◌then◌else◌, refl, sym, ◌∙◌, ap, arith}
use Rattle.std.specs.List.{position_or_len, position}
use Rattle.std.specs.Option.{unwrap_or, option_map}
use Rattle.std.proofs.lemmas.Bool.Decides.{nat_tests}
use Rattle.flash_names.specs.Cut.{cut_at}
use Rattle.flash_names.specs.Words.{words, in_first}
use Rattle.flash_text.specs.Words.{spaced_words, from_word, behind_space}

-- a place, or the end where there is none
at_most_end : (p : ℕ → Bool) (bytes : List ℕ) → position_or_len p bytes ≤ length bytes
at_most_end p [] = omega arith
at_most_end p (b ∷ bytes) =
    elim (p b) as (λ test. cond (not test) (1 + position_or_len p bytes) 0 ≤ length (b ∷ bytes)) [
      | true ↦ omega arith
      | false ↦ omega (arith, at_most_end p bytes)
    ]

by_test : (n end : ℕ) (test : Bool) → nat_lt n end ≡ test → n ≤ end → unwrap_or (cond test (Some n) None) end ≡ n
by_test n end true is within = refl
by_test n end false is within = grind (arith, nat_tests)

pub place_or_end : (p : ℕ → Bool) (bytes : List ℕ) → unwrap_or (position p bytes) (length bytes) ≡ position_or_len p bytes
place_or_end p bytes = by_test (position_or_len p bytes) (length bytes) (nat_lt (position_or_len p bytes) (length bytes)) refl (at_most_end p bytes)

-- how many spaces a line begins with
abbrev pub spaces : List ℕ → ℕ
spaces bytes = position_or_len (λ b. not (b == 32)) bytes

begins_by : (b : ℕ) (bytes : List ℕ) (test : Bool) → drop (spaces bytes) bytes ≡ from_word bytes
    → drop (cond (not (not test)) (1 + spaces bytes) 0) (b ∷ bytes) ≡ (if test then from_word bytes else b ∷ bytes)
begins_by b bytes true rest =
    let step : 1 + spaces bytes ≡ suc (spaces bytes) = omega arith in
    ap (λ (n : ℕ). drop n (b ∷ bytes)) step ∙ rest
begins_by b bytes false rest = refl

-- behind its spaces a line begins with its first word
pub behind_spaces : (bytes : List ℕ) → drop (spaces bytes) bytes ≡ from_word bytes
behind_spaces [] = refl
behind_spaces (b ∷ bytes) = begins_by b bytes (b == 32) (behind_spaces bytes)

abbrev pub is_word : List ℕ → Bool
is_word w = not (nat_eq (length w) 0)

same_by : (b : ℕ) (bytes : List ℕ) (test : Bool) → spaced_words (from_word bytes) ≡ spaced_words bytes → (b == 32) ≡ test
    → spaced_words (if test then from_word bytes else b ∷ bytes) ≡ spaced_words (b ∷ bytes)
same_by b bytes true rest is =
    rest ∙ sym (ap (λ (space : Bool). filter is_word (if space then [] ∷ words bytes else in_first b (words bytes))) is)
same_by b bytes false rest is = refl

-- the words of what begins with the first word are those of the line
pub same_words : (bytes : List ℕ) → spaced_words (from_word bytes) ≡ spaced_words bytes
same_words [] = refl
same_words (b ∷ bytes) = same_by b bytes (b == 32) (same_words bytes) refl

-- what is there begins with another byte than a space
abbrev pub BeginsAWord : List ℕ → Type 0
BeginsAWord [] = Unit {0}
BeginsAWord (b ∷ bytes) = (b == 32) ≡ false

begins : (b : ℕ) (bytes : List ℕ) (test : Bool) → BeginsAWord (from_word bytes) → (b == 32) ≡ test → BeginsAWord (if test then from_word bytes else b ∷ bytes)
begins b bytes true rest is = rest
begins b bytes false rest is = is

pub begins_a_word : (bytes : List ℕ) → BeginsAWord (from_word bytes)
begins_a_word [] = tt
begins_a_word (b ∷ bytes) = begins b bytes (b == 32) (begins_a_word bytes) refl

-- the bytes before the first space, where it is cut there
abbrev pub front : List ℕ → Option (List ℕ × List ℕ) → List ℕ
front bytes None = bytes
front bytes (Some parts) = parts.0

-- those behind it
abbrev pub back : Option (List ℕ × List ℕ) → List ℕ
back None = []
back (Some parts) = parts.1

-- one byte more before the space
abbrev pub after : ℕ → Option (List ℕ × List ℕ) → Option (List ℕ × List ℕ)
after b cut = option_map (λ parts. (b ∷ parts.0, parts.1)) cut

same_back : (b : ℕ) (cut : Option (List ℕ × List ℕ)) → back (after b cut) ≡ back cut
same_back b None = refl
same_back b (Some parts) = refl

more_front : (b : ℕ) (bytes : List ℕ) (cut : Option (List ℕ × List ℕ)) → front (b ∷ bytes) (after b cut) ≡ b ∷ front bytes cut
more_front b bytes None = refl
more_front b bytes (Some parts) = refl

behind_by : (b : ℕ) (bytes : List ℕ) (test : Bool) → behind_space bytes ≡ back (cut_at 32 bytes)
    → (if test then bytes else behind_space bytes) ≡ back (if test then Some ([], bytes) else after b (cut_at 32 bytes))
behind_by b bytes true rest = refl
behind_by b bytes false rest = rest ∙ sym (same_back b (cut_at 32 bytes))

-- what is behind the first space, as the cut there has it
pub behind_cut : (bytes : List ℕ) → behind_space bytes ≡ back (cut_at 32 bytes)
behind_cut [] = refl
behind_cut (b ∷ bytes) = behind_by b bytes (b == 32) (behind_cut bytes)

-- the words of bytes that are cut at their first space
abbrev pub cut_words : List ℕ → Option (List ℕ × List ℕ) → List (List ℕ)
cut_words bytes None = bytes ∷ []
cut_words bytes (Some parts) = parts.0 ∷ words parts.1

longer : (b : ℕ) (bytes : List ℕ) (cut : Option (List ℕ × List ℕ)) → in_first b (cut_words bytes cut) ≡ cut_words (b ∷ bytes) (after b cut)
longer b bytes None = refl
longer b bytes (Some parts) = refl

cut_by : (b : ℕ) (bytes : List ℕ) (test : Bool) → words bytes ≡ cut_words bytes (cut_at 32 bytes)
    → (if test then [] ∷ words bytes else in_first b (words bytes)) ≡ cut_words (b ∷ bytes) (if test then Some ([], bytes) else after b (cut_at 32 bytes))
cut_by b bytes true rest = refl
cut_by b bytes false rest = ap (in_first b) rest ∙ longer b bytes (cut_at 32 bytes)

pub words_of_cut : (bytes : List ℕ) → words bytes ≡ cut_words bytes (cut_at 32 bytes)
words_of_cut [] = refl
words_of_cut (b ∷ bytes) = cut_by b bytes (b == 32) (words_of_cut bytes)

has_one : (b : ℕ) (bytes : List ℕ) → is_word (b ∷ bytes) ≡ true
has_one b bytes = grind (arith, nat_tests)

has_bytes : (b : ℕ) (bytes : List ℕ) (test : Bool) → (b == 32) ≡ test → test ≡ false
    → is_word (front (b ∷ bytes) (if test then Some ([], bytes) else after b (cut_at 32 bytes))) ≡ true
has_bytes b bytes true is other = absurd (cc other)
has_bytes b bytes false is other = ap is_word (more_front b bytes (cut_at 32 bytes)) ∙ has_one b (front bytes (cut_at 32 bytes))

kept : (bytes : List ℕ) (cut : Option (List ℕ × List ℕ)) → is_word (front bytes cut) ≡ true → filter is_word (cut_words bytes cut) ≡ front bytes cut ∷ spaced_words (back cut)
kept bytes None some = ap (λ (test : Bool). cond test (bytes ∷ []) []) some
kept bytes (Some parts) some = ap (λ (test : Bool). cond test (parts.0 ∷ spaced_words parts.1) (spaced_words parts.1)) some

first_by : (b : ℕ) (bytes : List ℕ) → BeginsAWord (b ∷ bytes) → spaced_words (b ∷ bytes) ≡ front (b ∷ bytes) (cut_at 32 (b ∷ bytes)) ∷ spaced_words (back (cut_at 32 (b ∷ bytes)))
first_by b bytes begins = ap (filter is_word) (words_of_cut (b ∷ bytes)) ∙ kept (b ∷ bytes) (cut_at 32 (b ∷ bytes)) (has_bytes b bytes (b == 32) refl begins)

-- what begins with a word has that word, and those of what is behind it
pub first_word : (bytes : List ℕ) → 1 ≤ length bytes → BeginsAWord bytes → spaced_words bytes ≡ front bytes (cut_at 32 bytes) ∷ spaced_words (back (cut_at 32 bytes))
first_word [] some begins = absurd (omega arith)
first_word (b ∷ bytes) some begins = first_by b bytes begins

-- no line grows when its first spaces are left out
pub no_longer : (bytes : List ℕ) → length (from_word bytes) ≤ length bytes
no_longer [] = omega arith
no_longer (b ∷ bytes) =
    elim (b == 32) as (λ test. length (if test then from_word bytes else b ∷ bytes) ≤ length (b ∷ bytes)) [
      | true ↦ omega (arith, no_longer bytes)
      | false ↦ omega arith
    ]
