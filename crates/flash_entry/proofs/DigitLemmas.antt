-- Hexadecimal digits, as they are printed and as they are read.
use Rattle.std.proofs.Common.{◌≡◌, ℕ, suc, ◌+◌, ◌-◌, ◌*◌, ◌/◌, ◌%◌, ◌<◌, ◌≤◌, Bool, true, false, ◌&&◌, ◌||◌, nat_lt, nat_le, List, [], ◌∷◌, length, get_or, Option, None, Some, Result, Ok, Err, if◌then◌else◌, codes, refl, sym, ◌∙◌, ap, subst, ◌⊎◌, inl, inr, arith}
use Rattle.std.proofs.lemmas.Bool.Decides.{nat_tests}
use Rattle.std.proofs.lemmas.List.Sums.{AllPass-from_list_all}
use Rattle.std.specs.Option.{option_and_then}
use Rattle.std.specs.Result.{result_ok}
use Rattle.std.specs.List.{list_all}
use Rattle.std.specs.Str.{bytes_eq}
use Rattle.hex.specs.Hex.{decode_of, decode_pairs, encode_lower, encode_with, lower_digits, hex_digit_value, value_at, pair_value, digit_or_error, IsBytes, ◌>>=◌}
use Rattle.hex.specs.declared.error.FromHexError.{FromHexError}
use Rattle.hex.proofs.HexLemmas.{decode_of-ok, decode_of-even, decode_of-encode_lower, IsDigits-lower_digits, length-encode_with}
use Rattle.flash_entry.specs.Text.{hexadecimal}
use Rattle.flash_entry.specs.IsEntry.{IsKey}
use Rattle.flash_entry.specs.WordValues.{if_key, is_lower_digit, bytes_of_digits, key_of_digits, value_of_digits}
use Rattle.flash_entry.proofs.GeometryLineWords.{IsOneWord}
use Rattle.flash_entry.proofs.FixedLemmas.{same_bytes}

too_long_at : (digits : List ℕ) (read : Result (List ℕ) FromHexError) → 500 < length digits → decode_of digits ≡ read
    → option_and_then if_key (result_ok read) ≡ None
too_long_at digits (Ok bytes) long is =
    let twice : length digits ≡ 2 * length bytes = (decode_of-ok digits bytes is).2 in
    let over : nat_le (length bytes) 250 ≡ false = grind (arith, nat_tests) in
    rw over refl
too_long_at digits (Err fault) long is = refl

-- more than 500 digits are no key
pub too_long : (digits : List ℕ) → 500 < length digits → option_and_then if_key (result_ok (decode_of digits)) ≡ None
too_long digits long = too_long_at digits (decode_of digits) long refl

-- ---- one digit

-- the digit of this value
abbrev digit_of : ℕ → ℕ
digit_of value = get_or lower_digits value 0

lower-digit_of : (value : ℕ) → value < 16 → is_lower_digit (digit_of value) ≡ true
lower-digit_of value small = AllPass-from_list_all is_lower_digit lower_digits refl value 0 small

by_ranges : (c value : ℕ) (upper letter digit : Bool) → (nat_le 65 c && nat_le c 70) ≡ upper
    → (nat_le 97 c && nat_le c 102) ≡ letter → (nat_le 48 c && nat_le c 57) ≡ digit
    → (digit || letter) ≡ true
    → (if upper then Some (c - 55) else if letter then Some (c - 87) else if digit then Some (c - 48) else None) ≡ Some value
    → ((48 ≤ c) × (c ≤ 57) × (value + 48 ≡ c)) ⊎ ((97 ≤ c) × (c ≤ 102) × (value + 87 ≡ c))
by_ranges c value true true digit at_upper at_letter at_digit lower is =
    absurd (grind (arith, nat_tests, at_upper, at_letter))
by_ranges c value true false true at_upper at_letter at_digit lower is =
    absurd (grind (arith, nat_tests, at_upper, at_digit))
by_ranges c value true false false at_upper at_letter at_digit lower is = absurd (cc lower)
by_ranges c value false true digit at_upper at_letter at_digit lower is =
    let same : c - 87 ≡ value = cc is in
    let low : 97 ≤ c = grind (arith, nat_tests, at_letter) in
    let high : c ≤ 102 = grind (arith, nat_tests, at_letter) in
    inr (low, high, omega arith)
by_ranges c value false false true at_upper at_letter at_digit lower is =
    let same : c - 48 ≡ value = cc is in
    let low : 48 ≤ c = grind (arith, nat_tests, at_digit) in
    let high : c ≤ 57 = grind (arith, nat_tests, at_digit) in
    inl (low, high, omega arith)
by_ranges c value false false false at_upper at_letter at_digit lower is = absurd (cc lower)

-- the two ranges of digits
digit_ranges : (c value : ℕ) → is_lower_digit c ≡ true → hex_digit_value c ≡ Some value
    → ((48 ≤ c) × (c ≤ 57) × (value + 48 ≡ c)) ⊎ ((97 ≤ c) × (c ≤ 102) × (value + 87 ≡ c))
digit_ranges c value lower is =
    by_ranges c value (nat_le 65 c && nat_le c 70) (nat_le 97 c && nat_le c 102)
    (nat_le 48 c && nat_le c 57) refl refl refl lower is

same_digit : (c d value : ℕ) → is_lower_digit c ≡ true → is_lower_digit d ≡ true → hex_digit_value c ≡ Some value
    → hex_digit_value d ≡ Some value → c ≡ d
same_digit c d value lower_c lower_d is_c is_d =
    elim (digit_ranges c value lower_c is_c) [
      | inl low ↦ elim (digit_ranges d value lower_d is_d) [ inl l ↦ omega arith | inr l ↦ omega arith ]
      | inr high ↦ elim (digit_ranges d value lower_d is_d) [ inl l ↦ omega arith | inr l ↦ omega arith ]
    ]

value_small : (c value : ℕ) → is_lower_digit c ≡ true → hex_digit_value c ≡ Some value → value < 16
value_small c value lower is = elim (digit_ranges c value lower is) [ inl l ↦ omega arith | inr l ↦ omega arith ]

-- a digit is that of its value
digit-spelled : (c value : ℕ) → is_lower_digit c ≡ true → hex_digit_value c ≡ Some value → digit_of value ≡ c
digit-spelled c value lower is =
    let small = value_small c value lower is in
    same_digit (digit_of value) c value (lower-digit_of value small) lower (IsDigits-lower_digits value small) is

-- ---- the digits of bytes

then_ok : {A B : Type 0} (read : Result A FromHexError) (next : A → Result B FromHexError) (out : B)
    → (read >>= next) ≡ Ok out → (x : A) × (read ≡ Ok x) × (next x ≡ Ok out)
then_ok (Ok x) next out is = (x, refl, is)
then_ok (Err e) next out is = absurd (cc is)

value_of_digit : (c i : ℕ) (read : Option ℕ) (value : ℕ) → digit_or_error c i read ≡ Ok value → read ≡ Some value
value_of_digit c i None value is = absurd (cc is)
value_of_digit c i (Some v) value is = ap Some (cc is)

both : (a b : Bool) → (a && b) ≡ true → (a ≡ true) × (b ≡ true)
both true b is = (refl, is)
both false b is = absurd (cc is)

-- lower-case digits are those of the bytes that they decode to
digits-spelled : (i : ℕ) (digits bytes : List ℕ) → list_all is_lower_digit digits ≡ true
    → decode_pairs i digits ≡ Ok bytes → encode_lower bytes ≡ digits
unfolding decode_pairs encode_with
digits-spelled i [] bytes lower is = let same : [] ≡ bytes = cc is in rw (← same) refl
digits-spelled i (a ∷ []) bytes lower is = absurd (cc is)
digits-spelled i (a ∷ b ∷ rest) bytes lower is =
    let lower_a = both (is_lower_digit a) (is_lower_digit b && list_all is_lower_digit rest) lower in
    let lower_b = both (is_lower_digit b) (list_all is_lower_digit rest) lower_a.1 in
    let pair = then_ok (pair_value a b i) _ bytes is in
    let high = then_ok (value_at a i) _ pair.0 pair.1 in
    let low = then_ok (value_at b (i + 1)) _ pair.0 high.2 in
    let more = then_ok (decode_pairs (i + 2) rest) _ bytes pair.2 in
    let same : pair.0 ∷ more.0 ≡ bytes = cc (more.2) in
    let byte : high.0 * 16 + low.0 ≡ pair.0 = cc (low.2) in
    let is_a = value_of_digit a i (hex_digit_value a) high.0 high.1 in
    let is_b = value_of_digit b (i + 1) (hex_digit_value b) low.0 low.1 in
    let small = value_small b low.0 lower_b.0 is_b in
    let first : pair.0 / 16 ≡ high.0 = omega arith in
    let second : pair.0 % 16 ≡ low.0 = omega arith in
    let at_a : digit_of (pair.0 / 16) ≡ a = ap digit_of first ∙ digit-spelled a high.0 lower_a.0 is_a in
    let at_b : digit_of (pair.0 % 16) ≡ b = ap digit_of second ∙ digit-spelled b low.0 lower_b.0 is_b in
    let behind = digits-spelled (i + 2) rest more.0 lower_b.1 more.1 in
    rw (← same) (ap (λ (x : ℕ). x ∷ digit_of (pair.0 % 16) ∷ encode_lower more.0) at_a ∙ ap (λ (x : ℕ). a ∷ x ∷ encode_lower more.0) at_b ∙ ap (λ (l : List ℕ). a ∷ b ∷ l) behind)

-- bytes in hexadecimal, which are some
record Spelled (w bytes : List ℕ) : Type 0 where
  text : encode_lower bytes ≡ w
  are_bytes : IsBytes bytes
  some : 0 < length bytes

read_bytes : (w bytes : List ℕ) (read : Result (List ℕ) FromHexError) → decode_of w ≡ read → 0 < length w
    → list_all is_lower_digit w ≡ true → result_ok read ≡ Some bytes → Spelled w bytes
read_bytes w bytes (Err e) read some lower is = absurd (cc is)
read_bytes w bytes (Ok found) read some lower is =
    let same : found ≡ bytes = cc is in
    let at : decode_of w ≡ Ok bytes = read ∙ ap Ok same in
    let ok = decode_of-ok w bytes at in
    record {
      text = digits-spelled 0 w bytes lower (sym (decode_of-even w ok.0) ∙ at);
      are_bytes = ok.3;
      some = let twice = ok.2 in omega arith;
    }

by_both : {A : Type 0} (test : Bool) (all : Option A) (x : A) → (if test then all else None) ≡ Some x
    → (test ≡ true) × (all ≡ Some x)
by_both true all x is = (refl, is)
by_both false all x is = absurd (cc is)

bytes-spelled : (w bytes : List ℕ) → bytes_of_digits w ≡ Some bytes → Spelled w bytes
unfolding bytes_of_digits
bytes-spelled w bytes is =
    let test = by_both (nat_lt 0 (length w) && list_all is_lower_digit w) (result_ok (decode_of w)) bytes is in
    let tests = both (nat_lt 0 (length w)) (list_all is_lower_digit w) test.0 in
    let some : 0 < length w = grind (arith, nat_tests, tests.0) in
    read_bytes w bytes (decode_of w) refl some tests.1 test.1

hexadecimal-some : (bytes : List ℕ) → 0 < length bytes → hexadecimal bytes ≡ 32 ∷ encode_lower bytes
hexadecimal-some [] some = absurd (omega arith)
hexadecimal-some (b ∷ bytes) some = refl

key_at : (w key : List ℕ) (read : Option (List ℕ)) → bytes_of_digits w ≡ read → option_and_then if_key read ≡ Some key
    → (hexadecimal key ≡ 32 ∷ w) × IsKey key
key_at w key None read is = absurd (cc is)
key_at w key (Some bytes) read is =
    let test = by_both (nat_le (length bytes) 250) (Some bytes) key is in
    let same : bytes ≡ key = cc (test.1) in
    let spelled = bytes-spelled w key (read ∙ ap Some same) in
    let short : length bytes ≤ 250 = grind (arith, nat_tests, test.0) in (
      hexadecimal-some key spelled.some ∙ ap (λ (l : List ℕ). 32 ∷ l) spelled.text,
      record { bytes = spelled.are_bytes; some = let s = spelled.some in omega arith; fits = let n = ap length same in omega arith },
    )

-- a key that is read is printed as its word
pub key-spelled : (w key : List ℕ) → key_of_digits w ≡ Some key → (hexadecimal key ≡ 32 ∷ w) × IsKey key
unfolding key_of_digits
key-spelled w key is = key_at w key (bytes_of_digits w) refl is

value_at_dash : (w value : List ℕ) (dash : Bool) → bytes_eq w (codes "-") ≡ dash
    → (if dash then Some [] else bytes_of_digits w) ≡ Some value → (hexadecimal value ≡ 32 ∷ w) × IsBytes value
value_at_dash w value true at is =
    let same : [] ≡ value = cc is in
    subst (λ v. (hexadecimal v ≡ 32 ∷ w) × IsBytes v) same (ap (λ (l : List ℕ). 32 ∷ l) (sym (same_bytes w (codes "-") at)), λ i. omega arith)
value_at_dash w value false at is =
    let spelled = bytes-spelled w value is in
    (hexadecimal-some value spelled.some ∙ ap (λ (l : List ℕ). 32 ∷ l) spelled.text, spelled.are_bytes)

-- a value that is read is printed as its word
pub value-spelled : (w value : List ℕ) → value_of_digits w ≡ Some value → (hexadecimal value ≡ 32 ∷ w) × IsBytes value
unfolding value_of_digits
value-spelled w value is = value_at_dash w value (bytes_eq w (codes "-")) refl is

-- ---- what is printed is read so

lower-encode : (bytes : List ℕ) → IsBytes bytes → list_all is_lower_digit (encode_lower bytes) ≡ true
unfolding encode_with
lower-encode [] are_bytes = refl
lower-encode (b ∷ bytes) are_bytes =
    let small : b < 256 = are_bytes 0 in
    let high = lower-digit_of (b / 16) (omega arith) in
    let low = lower-digit_of (b % 16) (omega arith) in
    rw (high, low) (lower-encode bytes (λ i. are_bytes (suc i)))

lower_word : (w : List ℕ) → list_all is_lower_digit w ≡ true → IsOneWord w
lower_word [] lower = tt
lower_word (d ∷ ds) lower =
    let at = both (is_lower_digit d) (list_all is_lower_digit ds) lower in
    (grind (arith, nat_tests, at.0), lower_word ds at.1)

-- hexadecimal digits are one word
pub digits-word : (bytes : List ℕ) → IsBytes bytes → IsOneWord (encode_lower bytes)
digits-word bytes are_bytes = lower_word (encode_lower bytes) (lower-encode bytes are_bytes)

pub bytes-back : (bytes : List ℕ) → IsBytes bytes → 0 < length bytes → bytes_of_digits (encode_lower bytes) ≡ Some bytes
unfolding bytes_of_digits
bytes-back bytes are_bytes some =
    let twice = length-encode_with lower_digits bytes in
    let any : nat_lt 0 (length (encode_lower bytes)) ≡ true = grind (arith, nat_tests, twice) in
    rw (any, lower-encode bytes are_bytes, decode_of-encode_lower bytes are_bytes) refl

pub key-back : (key : List ℕ) → IsKey key → key_of_digits (encode_lower key) ≡ Some key
unfolding key_of_digits
key-back key is =
    let short : nat_le (length key) 250 ≡ true = let fits = is.fits in grind (arith, nat_tests) in
    rw (bytes-back key is.bytes is.some, short) refl

dash-digits : bytes_of_digits (codes "-") ≡ None
unfolding bytes_of_digits
dash-digits = refl

value_or_dash : (bytes : List ℕ) (dash : Bool) → bytes_eq (encode_lower bytes) (codes "-") ≡ dash → IsBytes bytes
    → 0 < length bytes
    → (if dash then Some [] else bytes_of_digits (encode_lower bytes)) ≡ Some bytes
value_or_dash bytes true at are_bytes some =
    absurd (cc (bytes-back bytes are_bytes some, ap bytes_of_digits (same_bytes (encode_lower bytes) (codes "-") at), dash-digits))
value_or_dash bytes false at are_bytes some = bytes-back bytes are_bytes some

pub value-back : (bytes : List ℕ) → IsBytes bytes → 0 < length bytes → value_of_digits (encode_lower bytes) ≡ Some bytes
unfolding value_of_digits
value-back bytes are_bytes some = value_or_dash bytes (bytes_eq (encode_lower bytes) (codes "-")) refl are_bytes some
