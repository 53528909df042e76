-- The words of numbers, as they are printed and as they are read.
use Rattle.std.proofs.Common.{◌≡◌, ℕ, ℤ, pos, negsuc, zero, suc, ◌+◌, ◌-◌, ◌*◌, ◌^◌, ◌<◌, Bool, true, false, ◌==◌, ◌&&◌, nat_lt, nat_le, List, [], ◌∷◌, length, get_or, Option, None, Some, decimal, if◌then◌else◌, refl, sym, ◌∙◌, ap, subst, inl, inr, ◌⊎◌, arith, rules}
use Rattle.std.proofs.lemmas.Bool.Decides.{nat_tests}
use Rattle.std.proofs.lemmas.Bool.{lt-ltb}
use Rattle.std.proofs.lemmas.Fmt.{decimal_digit, first_decimal, decimal-digits_value}
use Rattle.std.proofs.lemmas.Str.Parse.{IsNumeralModel, numerals_by_fold}
use Rattle.std.specs.Fmt.{signed_decimal}
use Rattle.std.specs.Int.{w64}
use Rattle.std.specs.Prelude.{FitsSigned}
use Rattle.std.specs.Str.{all_ascii_digits}
use Rattle.std.specs.Option.{option_and_then, option_map}
use Rattle.flash_names.specs.Numbers.{is_digit, value_from, if_below, number_of}
use Rattle.flash_entry.specs.WordValues.{has_leading_zero, plain_number, narrow_number, below_zero, signed_number}
use Rattle.flash_entry.proofs.GeometryLineWords.{IsOneWord, one_word-decimal, if_below-small, number_of-decimal}

-- ---- what is read is printed so

-- the number of digits, after those of n
abbrev read_on : ℕ → List ℕ → ℕ
read_on n [] = n
read_on n (d ∷ ds) = read_on (10 * n + (d - 48)) ds

own : IsNumeralModel (λ ds. all_ascii_digits ds ≡ true) (read_on 0)
own = numerals_by_fold _ (search rules) read_on (search rules)

by_test : {A : Type 0} (test : Bool) (all : Option A) (x : A) → (if test then all else None) ≡ Some x
    → (test ≡ true) × (all ≡ Some x)
by_test true all x is = (refl, is)
by_test false all x is = absurd (cc is)

digits-value_from : (n v : ℕ) (ds : List ℕ) → value_from n ds ≡ Some v
    → (all_ascii_digits ds ≡ true) × (read_on n ds ≡ v)
digits-value_from n v [] is = (refl, cc is)
digits-value_from n v (d ∷ ds) is =
    let first = by_test (is_digit d) (value_from (10 * n + (d - 48)) ds) v is in
    let more = digits-value_from (10 * n + (d - 48)) v ds first.1 in
    (rw (first.0, more.0) refl, more.1)

below-if_below : (limit : ℕ) (all : Option ℕ) (n : ℕ) → if_below limit all ≡ Some n → (all ≡ Some n) × (n < limit)
below-if_below limit None n is = absurd (cc is)
below-if_below limit (Some m) n is =
    let test = by_test (nat_lt m limit) (Some m) n is in
    let same : m ≡ n = cc test.1 in
    (test.1, grind (arith, nat_tests, test.0, same))

single : (ds : List ℕ) → has_leading_zero ds ≡ false → 0 < length ds → get_or ds 0 0 ≡ 48 → length ds ≡ 1
single [] plain some zero_first = absurd (omega arith)
single (d ∷ ds) plain some zero_first = grind (arith, nat_tests, plain, zero_first)

not_leading : (test : Bool) (all : Option ℕ) (n : ℕ) → (if test then None else all) ≡ Some n
    → (test ≡ false) × (all ≡ Some n)
not_leading true all n is = absurd (cc is)
not_leading false all n is = (refl, is)

-- a number that is read is printed as its word
pub plain-spelled : (w : List ℕ) (n : ℕ) → plain_number w ≡ Some n → (decimal n ≡ w) × (n < 2 ^ 64)
unfolding plain_number
plain-spelled w n is =
    let plain = not_leading (has_leading_zero w) (number_of w) n is in
    let short = by_test (nat_le 1 (length w) && nat_le (length w) 20) (if_below (2 ^ 64) (value_from 0 w)) n plain.1 in
    let below = below-if_below (2 ^ 64) (value_from 0 w) n short.1 in
    let digits = digits-value_from 0 n w below.0 in
    let some : 0 < length w = grind (arith, nat_tests, short.0) in
    let value : read_on 0 w < 2 ^ 64 = omega (arith, digits.1, below.1) in
    (ap decimal (sym digits.1) ∙ decimal-digits_value own w digits.0 some (single w plain.0 some) value, below.1)

pub narrow-spelled : (w : List ℕ) (n : ℕ) → narrow_number w ≡ Some n → (decimal n ≡ w) × (n < 2 ^ 32)
unfolding narrow_number
narrow-spelled w n is =
    let below = below-if_below (2 ^ 32) (plain_number w) n is in ((plain-spelled w n below.0).0, below.1)

below_zero-spelled : (w : List ℕ) (distance : Option ℕ) (z : ℤ) → plain_number w ≡ distance
    → option_and_then below_zero distance ≡ Some z
    → (signed_decimal z ≡ 45 ∷ w) × FitsSigned w64 z
below_zero-spelled w None z read is = absurd (cc is)
below_zero-spelled w (Some zero) z read is = absurd (cc is)
below_zero-spelled w (Some (suc n)) z read is =
    let test = by_test (nat_lt n (2 ^ 63)) (Some (negsuc n)) z is in
    let same : negsuc n ≡ z = cc test.1 in
    let small : n < 2 ^ 63 = grind (arith, nat_tests, test.0) in
    let fits : FitsSigned w64 (negsuc n) = record { sfits = small } in
    (ap signed_decimal (sym same) ∙ ap (λ (l : List ℕ). 45 ∷ l) (plain-spelled w (suc n) read).0, subst (FitsSigned w64) same fits)

above_zero-spelled : (w : List ℕ) (number : Option ℕ) (z : ℤ) → if_below (2 ^ 63) (plain_number w) ≡ number
    → option_map pos number ≡ Some z
    → (signed_decimal z ≡ w) × FitsSigned w64 z
above_zero-spelled w None z read is = absurd (cc is)
above_zero-spelled w (Some n) z read is =
    let below = below-if_below (2 ^ 63) (plain_number w) n read in
    let same : pos n ≡ z = cc is in
    let fits : FitsSigned w64 (pos n) = record { sfits = below.1 } in
    (ap signed_decimal (sym same) ∙ (plain-spelled w n below.0).0, subst (FitsSigned w64) same fits)

by_sign : (b : ℕ) (bytes : List ℕ) (minus : Bool) (z : ℤ) → (b == 45) ≡ minus
    → (if minus then option_and_then below_zero (plain_number bytes) else option_map pos (if_below (2 ^ 63) (plain_number (b ∷ bytes)))) ≡ Some z
    → (signed_decimal z ≡ b ∷ bytes) × FitsSigned w64 z
by_sign b bytes true z at is =
    let same : 45 ≡ b = grind (arith, nat_tests, at) in
    let read = below_zero-spelled bytes (plain_number bytes) z refl is in
    (read.0 ∙ ap (λ (x : ℕ). x ∷ bytes) same, read.1)
by_sign b bytes false z at is = above_zero-spelled (b ∷ bytes) (if_below (2 ^ 63) (plain_number (b ∷ bytes))) z refl is

pub signed-spelled : (w : List ℕ) (z : ℤ) → signed_number w ≡ Some z → (signed_decimal z ≡ w) × FitsSigned w64 z
unfolding signed_number
signed-spelled [] z is = absurd (cc is)
signed-spelled (b ∷ bytes) z is = by_sign b bytes (b == 45) z refl is

-- ---- what is printed is read so

no_zero_before : (ds : List ℕ) → (48 < get_or ds 0 0) ⊎ (length ds ≡ 1) → has_leading_zero ds ≡ false
no_zero_before [] is = refl
no_zero_before (d ∷ ds) (inl above) = grind (arith, nat_tests, above)
no_zero_before (d ∷ ds) (inr one) = grind (arith, nat_tests, one)

no_zero-decimal : (n : ℕ) → n < 2 ^ 64 → has_leading_zero (decimal n) ≡ false
no_zero-decimal zero small = ap has_leading_zero (decimal_digit 0 (omega arith))
no_zero-decimal (suc n) small = no_zero_before (decimal (suc n)) (inl (first_decimal (suc n) (omega arith) small))

pub plain-back : (n : ℕ) → n < 2 ^ 64 → plain_number (decimal n) ≡ Some n
unfolding plain_number
plain-back n small = rw (no_zero-decimal n small) (number_of-decimal n small)

pub narrow-back : (n : ℕ) → n < 2 ^ 32 → narrow_number (decimal n) ≡ Some n
unfolding narrow_number
narrow-back n small = ap (if_below (2 ^ 32)) (plain-back n (omega arith)) ∙ if_below-small (2 ^ 32) n small

no_sign : (b : ℕ) (bytes : List ℕ) (n : ℕ) → plain_number (b ∷ bytes) ≡ Some n → (b == 45) ≡ false
unfolding plain_number
no_sign b bytes n is =
    let plain = not_leading (has_leading_zero (b ∷ bytes)) (number_of (b ∷ bytes)) n is in
    let short = by_test (nat_le 1 (length (b ∷ bytes)) && nat_le (length (b ∷ bytes)) 20) (if_below (2 ^ 64) (value_from 0 (b ∷ bytes))) n plain.1 in
    let below = below-if_below (2 ^ 64) (value_from 0 (b ∷ bytes)) n short.1 in
    let digit = by_test (is_digit b) (value_from (10 * 0 + (b - 48)) bytes) n below.0 in
    grind (arith, nat_tests, digit.0)

no_digits : (n : ℕ) → plain_number [] ≡ Some n → ⊥
unfolding plain_number
no_digits n is = cc is

signed_plain : (w : List ℕ) (n : ℕ) → plain_number w ≡ Some n → n < 2 ^ 63 → signed_number w ≡ Some (pos n)
unfolding signed_number
signed_plain [] n is small = absurd (no_digits n is)
signed_plain (b ∷ bytes) n is small =
    rw (no_sign b bytes n is) (ap (option_map pos) (ap (if_below (2 ^ 63)) is ∙ if_below-small (2 ^ 63) n small))

pub signed-back : (z : ℤ) → FitsSigned w64 z → signed_number (signed_decimal z) ≡ Some z
unfolding signed_number
signed-back (pos n) fits =
    let small : n < 2 ^ 63 = fits.sfits in signed_plain (decimal n) n (plain-back n (omega arith)) small
signed-back (negsuc n) fits =
    let small : n < 2 ^ 63 = fits.sfits in
    ap (option_and_then below_zero) (plain-back (suc n) (omega arith)) ∙ (rw (lt-ltb n (2 ^ 63) small) refl)

-- a signed number is one word
pub signed-word : (z : ℤ) → FitsSigned w64 z → IsOneWord (signed_decimal z)
signed-word (pos n) fits = let small : n < 2 ^ 63 = fits.sfits in one_word-decimal n (omega arith)
signed-word (negsuc n) fits = let small : n < 2 ^ 63 = fits.sfits in (refl, one_word-decimal (suc n) (omega arith))
