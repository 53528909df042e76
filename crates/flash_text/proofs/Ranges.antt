-- The numbers that the words of a line give are in their ranges, and its keys are keys.
use Rattle.std.proofs.Common.{◌≡◌, ℕ, ℤ, pos, ◌^◌, ◌<◌, ◌≤◌, Bool, true, false, ◌&&◌, nat_le, nat_lt, List, [], ◌∷◌, length, Option, None, Some, IfSome, if◌then◌else◌, refl, sym, ◌∙◌, ap, subst, arith}
use Rattle.std.specs.Prelude.{neg_ℤ}
use Rattle.std.specs.Option.{option_map, option_and_then, unwrap_or}
use Rattle.std.specs.List.{list_all}
use Rattle.std.proofs.lemmas.Bool.Decides.{nat_tests}
use Rattle.std.proofs.lemmas.Int.{ints}
use Rattle.flash_names.specs.Numbers.{number_of, value_from, if_below}
use Rattle.flash_text.specs.Said.{FieldValues}
use Rattle.flash_text.specs.Numbers.{seconds_of, delay_of, exptime_of}
use Rattle.flash_text.specs.LineLaws.{IsExptime, IsInRange}
use Rattle.flash_text.specs.Form.{Place, Key, Flags, Exptime, Length, Number, Optional, Zero, Delay, Noreply, Ending, KeyWords, OptionalWords, Form}
use Rattle.flash_text.specs.Fields.{no_fields, with_word, with_places, with_optional, with_optionals, with_keys, with_ending, fields_of}
use Rattle.flash_text.specs.declared.text.Verb.{Verb}
use Rattle.flash_text.specs.Words.{spaced_words, behind_word, behind_words, trimmed}
use Rattle.flash_text.specs.Keys.{is_key}
use Rattle.flash_text.specs.Reading.{said_of}
use Rattle.flash_text.proofs.KeySpans.{trimmed_words, behind_words_of, key_words}
use Rattle.flash_text.proofs.Seconds.{number_below as short_number}

limit_by : (limit n : ℕ) (test : Bool) → nat_lt n limit ≡ test → IfSome (if test then Some n else None) (λ m. m < limit)
limit_by limit n true is = grind (arith, nat_tests)
limit_by limit n false is = tt

pub below_limit : (limit : ℕ) (found : Option ℕ) → IfSome (if_below limit found) (λ m. m < limit)
below_limit limit None = tt
below_limit limit (Some n) = limit_by limit n (nat_lt n limit) refl

number_by : (word : List ℕ) (test : Bool) → IfSome (if test then if_below (2 ^ 64) (value_from 0 word) else None) (λ m. m < 2 ^ 64)
number_by word true = below_limit (2 ^ 64) (value_from 0 word)
number_by word false = tt

-- a number is below 2^64
pub number_fits : (word : List ℕ) → IfSome (number_of word) (λ m. m < 2 ^ 64)
number_fits word = number_by word _

short_by : (word : List ℕ) (found : Option ℕ) → number_of word ≡ found → length word ≤ 18 → IfSome found (λ m. m < 10 ^ 18)
short_by word None is short = tt
short_by word (Some n) is short = short_number word n short is

seconds_by : (word : List ℕ) (test : Bool) → nat_le (length word) 18 ≡ test → IfSome (if test then number_of word else None) (λ m. m < 10 ^ 18)
seconds_by word true is = short_by word (number_of word) refl (grind (arith, nat_tests))
seconds_by word false is = tt

seconds_fit : (word : List ℕ) → IfSome (seconds_of word) (λ m. m < 10 ^ 18)
seconds_fit word = seconds_by word (nat_le (length word) 18) refl

late : (n : ℕ) → n < 10 ^ 18 → IsExptime (pos n)
late n small = (omega (arith, ints), omega (arith, ints))

early : (n : ℕ) → n < 10 ^ 18 → IsExptime (neg_ℤ (pos n))
early n small = (omega (arith, ints), omega (arith, ints))

late_if : (found : Option ℕ) → IfSome found (λ m. m < 10 ^ 18) → IfSome (option_map pos found) IsExptime
late_if None small = tt
late_if (Some n) small = late n small

early_if : (found : Option ℕ) → IfSome found (λ m. m < 10 ^ 18) → IfSome (option_map (λ n. neg_ℤ (pos n)) found) IsExptime
early_if None small = tt
early_if (Some n) small = early n small

delay_fits : (word : List ℕ) → IfSome (delay_of word) IsExptime
delay_fits word = late_if (seconds_of word) (seconds_fit word)

sign_by : (b : ℕ) (word : List ℕ) (test : Bool) → IfSome (if test then option_map (λ n. neg_ℤ (pos n)) (seconds_of word) else delay_of (b ∷ word)) IsExptime
sign_by b word true = early_if (seconds_of word) (seconds_fit word)
sign_by b word false = delay_fits (b ∷ word)

-- an exptime is between -10^18 and 10^18
pub exptime_fits : (word : List ℕ) → IfSome (exptime_of word) IsExptime
exptime_fits [] = tt
exptime_fits (b ∷ word) = sign_by b word _

-- each word of these bytes is a key
abbrev pub AreKeys : List ℕ → Type 0
AreKeys keys = list_all is_key (spaced_words keys) ≡ true

-- each field that was read is in its range
pub record AreInRange (f : FieldValues) : Type 0 where
  pub keys : IfSome f.keys AreKeys
  pub flags : IfSome f.flags (λ n. n < 2 ^ 32)
  pub exptime : IfSome f.exptime IsExptime
  pub length : IfSome f.length (λ n. n < 2 ^ 31)
  pub number : IfSome f.number (λ n. n < 2 ^ 64)

at_first : AreInRange no_fields
at_first = record { keys = refl; flags = grind arith; exptime = late 0 (grind arith); length = grind arith; number = grind arith }

key_fits : (word : List ℕ) (test : Bool) → is_key word ≡ test → IfSome (if test then Some word else None) AreKeys
key_fits word true is = ap (list_all is_key) (key_words word is) ∙ ap (λ (test : Bool). test && true) is
key_fits word false is = tt

at_word : (place : Place) (word : List ℕ) (fields : FieldValues) → AreInRange fields → AreInRange (with_word place word fields)
at_word Key word fields are = record { keys = key_fits word (is_key word) refl; flags = are.flags; exptime = are.exptime; length = are.length; number = are.number }
at_word Flags word fields are = record { keys = are.keys; flags = below_limit (2 ^ 32) (number_of word); exptime = are.exptime; length = are.length; number = are.number }
at_word Exptime word fields are = record { keys = are.keys; flags = are.flags; exptime = exptime_fits word; length = are.length; number = are.number }
at_word Length word fields are = record { keys = are.keys; flags = are.flags; exptime = are.exptime; length = below_limit (2 ^ 31) (number_of word); number = are.number }
at_word Number word fields are = record { keys = are.keys; flags = are.flags; exptime = are.exptime; length = are.length; number = number_fits word }

-- what was read is in its range, and the words behind it are those of the bytes behind so many words
abbrev BehindPlaces : ℕ → List ℕ → FieldValues × List (List ℕ) → Type 0
BehindPlaces n line read = AreInRange read.0 × (read.1 ≡ spaced_words (behind_words n line))

at_places : (places : List Place) (words : List (List ℕ)) (line : List ℕ) (fields : FieldValues) → words ≡ spaced_words line → AreInRange fields
    → IfSome (with_places places words fields) (BehindPlaces (length places) line)
at_places [] words line fields is are = (are, is)
at_places (place ∷ places) [] line fields is are = tt
at_places (place ∷ places) (word ∷ words) line fields is are =
    at_places places words (behind_word line) (with_word place word fields) (sym (behind_words_of line word words (sym is))) (at_word place word fields are)

kept_if : (fields other : FieldValues) (test : Bool) → AreInRange other → IfSome (if test then Some other else None) AreInRange
kept_if fields other true are = are
kept_if fields other false are = tt

delayed : (fields : FieldValues) (delay : Option ℤ) → AreInRange fields → IfSome delay IsExptime → IfSome (option_map (λ d. record fields { exptime = Some d }) delay) AreInRange
delayed fields None are fits = tt
delayed fields (Some d) are fits = record { keys = are.keys; flags = are.flags; exptime = fits; length = are.length; number = are.number }

at_optional : (optional : Optional) (word : List ℕ) (fields : FieldValues) → AreInRange fields → IfSome (with_optional optional word fields) AreInRange
at_optional Zero word fields are = kept_if fields fields _ are
at_optional Delay word fields are = delayed fields (delay_of word) are (delay_fits word)
at_optional Noreply word fields are =
    kept_if fields (record fields { quiet = true }) _ (record { keys = are.keys; flags = are.flags; exptime = are.exptime; length = are.length; number = are.number })

by_optional : (rest : Option FieldValues) (more : FieldValues → Option FieldValues) (found : Option FieldValues) → IfSome found AreInRange → IfSome rest AreInRange
    → ((fields : FieldValues) → AreInRange fields → IfSome (more fields) AreInRange) → IfSome (elim found [ None ↦ rest | Some fields ↦ more fields ]) AreInRange
by_optional rest more None fits none some = none
by_optional rest more (Some fields) fits none some = some fields fits

at_optionals : (optionals : List Optional) (words : List (List ℕ)) (fields : FieldValues) → AreInRange fields → IfSome (with_optionals optionals words fields) AreInRange
at_optionals [] [] fields are = are
at_optionals [] (word ∷ words) fields are = tt
at_optionals (optional ∷ optionals) [] fields are = are
at_optionals (optional ∷ optionals) (word ∷ words) fields are =
    by_optional (with_optionals optionals (word ∷ words) fields) (λ more. with_optionals optionals words more) (with_optional optional word fields)
    (at_optional optional word fields are) (at_optionals optionals (word ∷ words) fields are) (λ more fits. at_optionals optionals words more fits)

span_by : (span : List ℕ) (ws : List (List ℕ)) (test : Bool) → list_all is_key ws ≡ test → spaced_words span ≡ ws → IfSome (if test then Some span else None) AreKeys
span_by span ws true is same = ap (list_all is_key) same ∙ is
span_by span ws false is same = tt

at_keys : (span : List ℕ) (words : List (List ℕ)) (fields : FieldValues) → spaced_words span ≡ words → AreInRange fields → IfSome (with_keys span words fields) AreInRange
at_keys span [] fields same are = tt
at_keys span (word ∷ words) fields same are = record {
  keys = span_by span (word ∷ words) (list_all is_key (word ∷ words)) refl same;
  flags = are.flags;
  exptime = are.exptime;
  length = are.length;
  number = are.number;
}

at_ending : (ending : Ending) (span : List ℕ) (words : List (List ℕ)) (fields : FieldValues) → spaced_words span ≡ words → AreInRange fields → IfSome (with_ending ending span words fields) AreInRange
at_ending KeyWords span words fields same are = at_keys span words fields same are
at_ending (OptionalWords optionals) span words fields same are = at_optionals optionals words fields are

and_then : (ending : Ending) (n : ℕ) (line : List ℕ) (read : Option (FieldValues × List (List ℕ))) → IfSome read (BehindPlaces n line)
    → IfSome (option_and_then (λ r. with_ending ending (trimmed (behind_words n line)) r.1 r.0) read) AreInRange
and_then ending n line None are = tt
and_then ending n line (Some r) are = at_ending ending (trimmed (behind_words n line)) r.1 r.0 (trimmed_words (behind_words n line) ∙ sym are.1) are.0

-- the fields of a line are in their ranges
pub in_range : (form : Form) (rest : List ℕ) → IfSome (fields_of form rest) AreInRange
unfolding fields_of
in_range form rest = and_then form.ending (length form.places) rest _ (at_places form.places (spaced_words rest) rest no_fields refl at_first)

or_default : {A : Type 0} (P : A → Type 0) (d : A) (found : Option A) → IfSome found P → P d → P (unwrap_or found d)
or_default P d None all here = here
or_default P d (Some x) all here = all

-- fields that were found are in their ranges
pub found_in_range : (form : Form) (rest : List ℕ) (fields : FieldValues) → fields_of form rest ≡ Some fields → AreInRange fields
found_in_range form rest fields is = subst (λ (f : Option FieldValues). IfSome f AreInRange) is (in_range form rest)

-- what a line says is in its ranges
pub said_in_range : (item_max : ℕ) (verb : Verb) (fields : FieldValues) → AreInRange fields → unwrap_or fields.length 0 ≤ item_max → IsInRange item_max (said_of verb fields)
said_in_range item_max verb fields are allowed = record {
  flags = or_default (λ n. n < 2 ^ 32) 0 fields.flags are.flags (grind arith);
  exptime = or_default IsExptime (pos 0) fields.exptime are.exptime at_first.exptime;
  length = or_default (λ n. n < 2 ^ 31) 0 fields.length are.length (grind arith);
  allowed = allowed;
  number = or_default (λ n. n < 2 ^ 64) 0 fields.number are.number (grind arith);
}

-- the keys of what a line says are keys
pub said_keys : (verb : Verb) (fields : FieldValues) → AreInRange fields → AreKeys (said_of verb fields).keys
said_keys verb fields are = or_default AreKeys [] fields.keys are.keys refl
