-- A number of at most 18 digits is below 10^18.
use Rattle.std.proofs.Common.{◌≡◌, ℕ, zero, suc, ◌+◌, ◌-◌, ◌*◌, ◌^◌, ◌≤◌, ◌<◌, Bool, true, false, nat_lt, List, [], ◌∷◌, length, Option, None, Some, if◌then◌else◌, refl, arith}
use Rattle.std.proofs.lemmas.Bool.Decides.{nat_tests}
use Rattle.flash_names.specs.Numbers.{is_digit, value_from, if_below, number_of}

-- m with so many digits more
abbrev behind_digits : ℕ → ℕ → ℕ
behind_digits zero m = m
behind_digits (suc k) m = behind_digits k (10 * m)

grows : (k m n : ℕ) → m ≤ n → behind_digits k m ≤ behind_digits k n
grows zero m n le = le
grows (suc k) m n le = grows k (10 * m) (10 * n) (omega arith)

no_less : (k m : ℕ) → m ≤ behind_digits k m
no_less zero m = omega arith
no_less (suc k) m = omega (arith, no_less k (10 * m))

digit_below : (b : ℕ) → is_digit b ≡ true → b - 48 < 10
digit_below b digit = grind (arith, nat_tests)

value_by : (k n b v : ℕ) (bytes : List ℕ) (digit : Bool) → is_digit b ≡ digit → (if digit then value_from (10 * n + (b - 48)) bytes else None) ≡ Some v
    → (value_from (10 * n + (b - 48)) bytes ≡ Some v → v < behind_digits k (10 * n + (b - 48) + 1)) → v < behind_digits k (10 * (n + 1))
value_by k n b v bytes true digit is rest =
    omega (arith, rest is, digit_below b digit, grows k (10 * n + (b - 48) + 1) (10 * (n + 1)) (omega (arith, digit_below b digit)))
value_by k n b v bytes false digit is rest = absurd (cc is)

value_below : (k n v : ℕ) (bytes : List ℕ) → length bytes ≤ k → value_from n bytes ≡ Some v → v < behind_digits k (n + 1)
value_below k n v [] short is = let same : n ≡ v = cc in omega (arith, no_less k (n + 1))
value_below zero n v (b ∷ bytes) short is = absurd (omega arith)
value_below (suc k) n v (b ∷ bytes) short is =
    value_by k n b v bytes (is_digit b) refl is (λ rest. value_below k (10 * n + (b - 48)) v bytes (omega arith) rest)

below_by : (limit n v : ℕ) (test : Bool) → (if test then Some n else None) ≡ Some v → Some n ≡ Some v
below_by limit n v true is = is
below_by limit n v false is = absurd (cc is)

if_below-same : (limit v : ℕ) (found : Option ℕ) → if_below limit found ≡ Some v → found ≡ Some v
if_below-same limit v None is = absurd (cc is)
if_below-same limit v (Some n) is = below_by limit n v (nat_lt n limit) is

value_of : (v : ℕ) (word : List ℕ) (test : Bool) → (if test then if_below (2 ^ 64) (value_from 0 word) else None) ≡ Some v → value_from 0 word ≡ Some v
value_of v word true is = if_below-same (2 ^ 64) v (value_from 0 word) is
value_of v word false is = absurd (cc is)

pub number_below : (word : List ℕ) (n : ℕ) → length word ≤ 18 → number_of word ≡ Some n → n < 10 ^ 18
number_below word n short is = value_below 18 0 n word short (value_of n word _ is)
