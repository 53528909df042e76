-- No letter is given twice.
use Rattle.std.proofs.Common.{◌≡◌, ◌≢◌, ℕ, Bool, true, false, ◌==◌, ◌||◌, ◌&&◌, nat_lt, List, [], ◌∷◌, ◌++◌, length, Option, None, Some, Result, Ok, Err, if◌then◌else◌, refl, sym, ◌∙◌, ap, arith}
use Rattle.std.specs.List.{list_any}
use Rattle.std.proofs.lemmas.Bool.Decides.{nat_tests}
use Rattle.flash_text.specs.declared.text.Refusal.{Refusal}
use Rattle.flash_text.specs.declared.text.Refusal.TheVariants.{BadFlag, DuplicateFlag, BadToken}
use Rattle.flash_meta.specs.declared.meta.MetaVerb.{MetaVerb}
use Rattle.flash_meta.specs.declared.flags.Flag.{Flag}
use Rattle.flash_meta.specs.declared.flags.Flags.{Flags}
use Rattle.flash_meta.specs.Flags.{flag_of, is_bare}
use Rattle.flash_meta.specs.FlagReading.{no_flags, with_flag, or_refusal, read_known, read_word, given_with, read_words, flags_in}

-- whether a letter was given
abbrev has : ℕ → List ℕ → Bool
has letter given = list_any (λ other. other == letter) given

-- the answer to a letter by two tests
abbrev tested : Bool → Bool → Result Flags Refusal → Result Flags Refusal
tested a b found = if a then Err BadFlag else if b then Err DuplicateFlag else found

never_by : (a : Bool) (found : Result Flags Refusal) (flags : Flags) → tested a true found ≢ Ok flags
never_by true found flags is = cc is
never_by false found flags is = cc is

never_known : (flag : Option Flag) (letter : ℕ) (token given : List ℕ) (flags result : Flags) → has letter given ≡ true → read_known flag letter token given flags ≢ Ok result
never_known None letter token given flags result was is = cc is
never_known (Some flag) letter token given flags result was is =
    let a = is_bare flag && nat_lt 0 (length token) in
    let found = or_refusal BadToken (with_flag flag token flags) in
    never_by a found result (sym (ap (λ (b : Bool). tested a b found) was) ∙ is)

-- the second reading after the first
abbrev then_read : Result Flags Refusal → (Flags → Result Flags Refusal) → Result Flags Refusal
then_read found next = elim found [ Err refusal ↦ Err refusal | Ok more ↦ next more ]

never_after : (found : Result Flags Refusal) (next : Flags → Result Flags Refusal) (result : Flags) → ((more : Flags) → next more ≢ Ok result) → then_read found next ≢ Ok result
never_after (Err refusal) next result never is = cc is
never_after (Ok more) next result never is = never more is

never_first : (found : Result Flags Refusal) (next : Flags → Result Flags Refusal) (result : Flags) → ((more : Flags) → found ≢ Ok more) → then_read found next ≢ Ok result
never_first (Err refusal) next result never is = cc is
never_first (Ok more) next result never is = never more refl

or_true : (a b : Bool) → b ≡ true → (a || b) ≡ true
or_true true b is = refl
or_true false b is = is

still_has : (letter : ℕ) (given word : List ℕ) → has letter given ≡ true → has letter (given_with given word) ≡ true
still_has letter given [] was = was
still_has letter given (other ∷ token) was = or_true (other == letter) (has letter given) was

-- a letter that was given isn't read again
not_again : (verb : MetaVerb) (letter : ℕ) (token : List ℕ) (before behind : List (List ℕ)) (given : List ℕ) (flags result : Flags) → has letter given ≡ true
    → read_words verb given (before ++ (letter ∷ token) ∷ behind) flags ≢ Ok result
not_again verb letter token [] behind given flags result was =
    never_first (read_word verb given (letter ∷ token) flags) (λ more. read_words verb (letter ∷ given) behind more) result
    (λ more. never_known (flag_of verb letter) letter token given flags more was)
not_again verb letter token (word ∷ before) behind given flags result was =
    never_after (read_word verb given word flags) (λ more. read_words verb (given_with given word) (before ++ (letter ∷ token) ∷ behind) more) result
    (λ more. not_again verb letter token before behind (given_with given word) more result (still_has letter given word was))

itself : (letter : ℕ) → (letter == letter) ≡ true
itself letter = grind (arith, nat_tests)

now_has : (letter : ℕ) (given : List ℕ) → has letter (letter ∷ given) ≡ true
now_has letter given = ap (λ (a : Bool). a || has letter given) (itself letter)

never_twice : (verb : MetaVerb) (before middle behind : List (List ℕ)) (letter : ℕ) (one other given : List ℕ) (flags result : Flags)
    → read_words verb given (before ++ (letter ∷ one) ∷ (middle ++ (letter ∷ other) ∷ behind)) flags ≢ Ok result
never_twice verb [] middle behind letter one other given flags result =
    never_after (read_word verb given (letter ∷ one) flags) (λ more. read_words verb (letter ∷ given) (middle ++ (letter ∷ other) ∷ behind) more) result
    (λ more. not_again verb letter other middle behind (letter ∷ given) more result (now_has letter given))
never_twice verb (word ∷ before) middle behind letter one other given flags result =
    never_after (read_word verb given word flags) (λ more. read_words verb (given_with given word) (before ++ (letter ∷ one) ∷ (middle ++ (letter ∷ other) ∷ behind)) more) result
    (λ more. never_twice verb before middle behind letter one other (given_with given word) more result)

-- flags that have a letter twice aren't read
pub letters_differ : (verb : MetaVerb) (before middle behind : List (List ℕ)) (letter : ℕ) (one other : List ℕ) (flags : Flags)
    → flags_in verb (before ++ (letter ∷ one) ∷ (middle ++ (letter ∷ other) ∷ behind)) ≢ Ok flags
unfolding flags_in
letters_differ verb before middle behind letter one other flags = never_twice verb before middle behind letter one other [] no_flags flags
