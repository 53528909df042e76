-- Counts of faults that rise, and of connections.
use Rattle.std.proofs.Common.{◌≡◌, ℕ, ◌-◌, ◌<◌, ◌≤◌, zero, suc, refl, arith, ap}
use Rattle.flash_names.specs.Faults.{Rose, next_count}
use Rattle.flash_serve.specs.Serving.{count_after}

-- a count that rose later rose
pub rose_later : (a b c : ℕ) → a ≤ b → Rose b c → Rose a c
rose_later a b c kept rose = omega (arith, kept, rose)

-- one that rose before rose
pub rose_before : (a b c : ℕ) → Rose a b → b ≤ c → Rose a c
rose_before a b c rose kept = omega (arith, rose, kept)

pub kept_on : (a b c : ℕ) → a ≤ b → b ≤ c → a ≤ c
kept_on a b c one two = omega (arith, one, two)

-- one of the connections that are to come came
pub one_fewer : (n count : ℕ) → 0 < n → count_after n count ≡ count_after (n - 1) (next_count count)
one_fewer zero count more = absurd (omega (arith, more))
one_fewer (suc n) count more = ap (λ m. count_after m (next_count count)) (let e : n ≡ suc n - 1 = omega arith in e)

-- none is to come
pub none_left : (n count : ℕ) → n ≤ 0 → count_after n count ≡ count
none_left zero count none = refl
none_left (suc n) count none = absurd (omega (arith, none))
