-- The words of a line of numbers, and the numbers of those words.
use Rattle.std.proofs.Common.{◌≡◌, ℕ, ◌+◌, ◌-◌, ◌*◌, ◌/◌, ◌%◌, ◌^◌, ◌<◌, ◌≤◌, Bool, true, false, ◌==◌, ◌&&◌, nat_le, List, [], ◌∷◌, ◌++◌, length, map, Option, Some, None, decimal, if◌then◌else◌, refl, sym, ◌∙◌, ap, append_assoc, append-nil, arith}
use Rattle.std.proofs.lemmas.Bool.Decides.{nat_tests}
use Rattle.std.proofs.lemmas.Bool.{lt-ltb}
use Rattle.std.proofs.lemmas.Fmt.{decimal_by_steps, decimal_nonempty, length-decimal-le}
use Rattle.flash_names.specs.Numbers.{is_digit, value_from, if_below, number_of}
use Rattle.flash_names.specs.Words.{words, in_first}
use Rattle.flash_entry.specs.GeometryLine.{numbers_of}
use Rattle.flash_entry.specs.Text.{number}
use Rattle.flash_entry.proofs.WordLemmas.{length-words}

-- no byte is a space
abbrev pub IsOneWord : List ℕ → Type 0
IsOneWord [] = Unit {0}
IsOneWord (b ∷ bytes) = ((b == 32) ≡ false) × IsOneWord bytes

one_word-with_more : (front : List ℕ) (b : ℕ) → IsOneWord front → (b == 32) ≡ false → IsOneWord (front ++ b ∷ [])
one_word-with_more [] b front last = (last, tt)
one_word-with_more (x ∷ front) b one last = (one.0, one_word-with_more front b one.1 last)

pub other_than_space : (n : ℕ) → (48 + n == 32) ≡ false
other_than_space n = grind (arith, nat_tests)

pub one_word-decimal : (n : ℕ) → n < 2 ^ 64 → IsOneWord (decimal n)
one_word-decimal n small =
    decimal_by_steps (λ n ds. IsOneWord ds) (λ n digit. (other_than_space n, tt))
    (λ n ds large front. one_word-with_more ds (48 + n % 10) front (other_than_space (n % 10))) n small

pub words-one : (w : List ℕ) → IsOneWord w → words w ≡ w ∷ []
words-one [] one = refl
words-one (b ∷ bytes) one = rw one.0 (ap (in_first b) (words-one bytes one.1))

in_first-front : (b : ℕ) (ws vs : List (List ℕ)) → 1 ≤ length ws → in_first b (ws ++ vs) ≡ in_first b ws ++ vs
in_first-front b [] vs some = absurd (omega arith)
in_first-front b (w ∷ ws) vs some = refl

by_space : (b : ℕ) (space : Bool) (us ws vs : List (List ℕ)) → us ≡ ws ++ vs → 1 ≤ length ws
    → (if space then [] ∷ us else in_first b us) ≡ (if space then [] ∷ ws else in_first b ws) ++ vs
by_space b true us ws vs same some = ap (λ (l : List (List ℕ)). [] ∷ l) same
by_space b false us ws vs same some = ap (in_first b) same ∙ in_first-front b ws vs some

-- the words on both sides of a space
pub words-append : (front back : List ℕ) → words (front ++ 32 ∷ back) ≡ words front ++ words back
words-append [] back = refl
words-append (b ∷ front) back =
    by_space b (b == 32) (words (front ++ 32 ∷ back)) (words front) (words back) (words-append front back) (omega (arith, length-words front))

-- each number is below the limit
abbrev pub AllBelow : ℕ → List ℕ → Type 0
AllBelow limit [] = Unit {0}
AllBelow limit (n ∷ ns) = (n < limit) × AllBelow limit ns

-- a text and numbers after it
abbrev pub with_numbers : List ℕ → List ℕ → List ℕ
with_numbers front [] = front
with_numbers front (n ∷ ns) = with_numbers (front ++ number n) ns

pub words-with_numbers : (front ns : List ℕ) → AllBelow (2 ^ 64) ns → words (with_numbers front ns) ≡ words front ++ map decimal ns
words-with_numbers front [] small = sym (append-nil (words front))
words-with_numbers front (n ∷ ns) small =
    words-with_numbers (front ++ number n) ns small.1
    ∙ ap (λ (l : List (List ℕ)). l ++ map decimal ns) (words-append front (decimal n) ∙ ap (λ (l : List (List ℕ)). words front ++ l) (words-one (decimal n) (one_word-decimal n small.0)))
    ∙ append_assoc (words front) (decimal n ∷ []) (map decimal ns)

by_digit : (rest all : Option ℕ) (v w : ℕ) (digit : Bool) → (rest ≡ Some v → all ≡ Some w) → (if digit then rest else None) ≡ Some v → (if digit then all else None) ≡ Some w
by_digit rest all v w true step is = step is
by_digit rest all v w false step is = absurd (cc is)

value-append : (n v d : ℕ) (ds : List ℕ) → value_from n ds ≡ Some v → d < 10 → value_from n (ds ++ (48 + d) ∷ []) ≡ Some (10 * v + d)
value-append n v d [] is digit =
    let passes : is_digit (48 + d) ≡ true = grind (arith, nat_tests) in
    let same : n ≡ v = cc is in
    let value : 10 * n + (48 + d - 48) ≡ 10 * v + d = omega (arith, same) in
    rw passes (ap Some value)
value-append n v d (b ∷ ds) is digit =
    let next = 10 * n + (b - 48) in
    by_digit (value_from next ds) (value_from next (ds ++ (48 + d) ∷ [])) v (10 * v + d) (is_digit b) (λ rest. value-append next v d ds rest digit) is

value-decimal : (n : ℕ) → n < 2 ^ 64 → value_from 0 (decimal n) ≡ Some n
value-decimal n small =
    decimal_by_steps (λ n ds. value_from 0 ds ≡ Some n)
    (λ n digit.
    let alone : 10 * 0 + n ≡ n = omega arith in
    value-append 0 0 n [] refl digit ∙ ap Some alone)
    (λ n ds large front.
    let value : 10 * (n / 10) + n % 10 ≡ n = omega arith in
    value-append 0 (n / 10) (n % 10) ds front (omega arith) ∙ ap Some value) n small

pub if_below-small : (limit n : ℕ) → n < limit → if_below limit (Some n) ≡ Some n
if_below-small limit n small = rw (lt-ltb n limit small) refl

pub number_of-decimal : (n : ℕ) → n < 2 ^ 64 → number_of (decimal n) ≡ Some n
number_of-decimal n small =
    let some = decimal_nonempty n small in
    let most = length-decimal-le 20 n (omega arith) (omega arith) small in
    let test : (nat_le 1 (length (decimal n)) && nat_le (length (decimal n)) 20) ≡ true = grind (arith, nat_tests) in
    rw (test, value-decimal n small) (if_below-small (2 ^ 64) n small)

-- words of numbers are read as the numbers
pub numbers_of-decimals : (ns : List ℕ) → AllBelow (2 ^ 64) ns → numbers_of (map decimal ns) ≡ Some ns
numbers_of-decimals [] small = refl
numbers_of-decimals (n ∷ ns) small = rw (number_of-decimal n small.0, numbers_of-decimals ns small.1) refl
