-- The value of digits, one after the other.
use Rattle.std.proofs.Common.{◌≡◌, ℕ, ◌+◌, ◌-◌, ◌*◌, ◌<◌, ◌≤◌, Bool, true, false, nat_lt, List, [], ◌∷◌, None, Some, if◌then◌else◌, refl, sym, ap, arith}
use Rattle.std.proofs.lemmas.Bool.Decides.{nat_tests}
use Rattle.std.proofs.lemmas.Bool.{lt-ltb}
use Rattle.flash_names.specs.Numbers.{is_digit, value_from, if_below}

not_below : (limit v : ℕ) → limit ≤ v → if_below limit (Some v) ≡ None
not_below limit v large = grind (arith, nat_tests)

below : (limit v : ℕ) → v < limit → if_below limit (Some v) ≡ Some v
below limit v small = rw (lt-ltb v limit small) refl

-- a number that passed the limit's test is the one that was tested
same_below : (limit v next : ℕ) (test : Bool) → Some next ≡ (if test then Some v else None) → next ≡ v
same_below limit v next true is = cc
same_below limit v next false is = absurd (cc is)

stays : (limit v : ℕ) (test : Bool) → nat_lt v limit ≡ test → None ≡ (if test then Some v else None) → limit ≤ v
stays limit v true lt is = absurd (cc is)
stays limit v false lt is = grind (arith, nat_tests)

-- what is too large stays so
pub too_large : (limit n : ℕ) (bytes : List ℕ) → limit ≤ n → if_below limit (value_from n bytes) ≡ None
too_large limit n [] large = not_below limit n large
too_large limit n (b ∷ bytes) large =
    elim (is_digit b) as (λ digit. if_below limit (if digit then value_from (10 * n + (b - 48)) bytes else None) ≡ None) [
      | true ↦ too_large limit (10 * n + (b - 48)) bytes (omega arith)
      | false ↦ refl
    ]

more_by : (limit v next : ℕ) (bytes : List ℕ) (digit : Bool) → Some next ≡ if_below limit (if digit then Some v else None) → (if digit then value_from v bytes else None) ≡ value_from next bytes
more_by limit v next bytes true is = ap (λ (n : ℕ). value_from n bytes) (sym (same_below limit v next (nat_lt v limit) is))
more_by limit v next bytes false is = absurd (cc is)

-- the value of one digit more
pub one_more : (limit n b next : ℕ) (bytes : List ℕ) → Some next ≡ if_below limit (value_from n (b ∷ [])) → value_from n (b ∷ bytes) ≡ value_from next bytes
one_more limit n b next bytes is = more_by limit (10 * n + (b - 48)) next bytes (is_digit b) is

too_many_by : (limit v : ℕ) (bytes : List ℕ) (digit : Bool) → None ≡ if_below limit (if digit then Some v else None) → if_below limit (if digit then value_from v bytes else None) ≡ None
too_many_by limit v bytes true is = too_large limit v bytes (stays limit v (nat_lt v limit) refl is)
too_many_by limit v bytes false is = refl

-- a digit that leads too far, or a byte that is none
pub one_too_many : (limit n b : ℕ) (bytes : List ℕ) → None ≡ if_below limit (value_from n (b ∷ [])) → if_below limit (value_from n (b ∷ bytes)) ≡ None
one_too_many limit n b bytes is = too_many_by limit (10 * n + (b - 48)) bytes (is_digit b) is

-- no digit is left
pub at_end : (limit n : ℕ) → n < limit → if_below limit (value_from n []) ≡ Some n
at_end limit n small = below limit n small
