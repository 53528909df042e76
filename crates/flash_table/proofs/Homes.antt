-- One home more.
use Rattle.std.proofs.Common.{◌≡◌, ℕ, zero, suc, ◌+◌, ◌*◌, ◌-◌, ◌/◌, ◌%◌, ◌^◌, ◌<◌, ◌≤◌, Bool, true, false, cond, inl, inr, ◌⊎◌, refl, sym, ap, subst, ◌∙◌, arith, nat_eq, nat_lt}
use Rattle.std.proofs.lemmas.Bool.Decides.{nat_tests}
use Rattle.std.proofs.Math.Nat.{mod-mod_of_dvd, mod-lt, mod-eq_of_lt, mod-eq-sub-mod, dvd-mul_left, pow-succ'}
use Rattle.std.specs.Int.Bits.{bit_and}
use Rattle.std.proofs.lemmas.Nat.{and_mask}
use Rattle.flash_table.specs.Home.{power, home_at, home, split_home}

pub power_next : (n : ℕ) → power (suc n) ≡ cond (nat_eq (suc n) (2 * power n)) (suc n) (power n)
unfolding power
power_next n = refl

pub power_zero : power zero ≡ 1
unfolding power
power_zero = refl

fits : (n : ℕ) → (power (suc n) ≤ suc n) × (suc n < 2 * power (suc n))
fits zero = grind (arith, nat_tests, power_next zero, power_zero)
fits (suc n) = grind (arith, nat_tests, power_next (suc n), fits n)

-- the power is at most n, and twice the power is above n
pub power_fits : (n : ℕ) → 0 < n → (power n ≤ n) × (n < 2 * power n)
power_fits zero some = absurd (omega arith)
power_fits (suc n) some = fits n

power_next_is : (n : ℕ) → (k : ℕ) × (power n ≡ 2 ^ k) → (b : Bool) → nat_eq (suc n) (2 * power n) ≡ b → (k : ℕ) × (cond b (suc n) (power n) ≡ 2 ^ k)
power_next_is n before false is = before
power_next_is n before true is =
    let double : suc n ≡ 2 * power n = grind (arith, nat_tests) in
    (suc before.0, double ∙ ap (λ (m : ℕ). 2 * m) before.1 ∙ sym (pow-succ' 2 before.0))

-- the power is a power of two
pub power_is : (n : ℕ) → (k : ℕ) × (power n ≡ 2 ^ k)
unfolding power
power_is zero = (0, refl)
power_is (suc n) = let before = power_is n in power_next_is n before (nat_eq (suc n) (2 * power n)) refl

either : (a b : ℕ) → (a < b) ⊎ (b ≤ a)
either a b = grind (arith, nat_tests)

half_of : (r b : ℕ) → 0 < b → r < 2 * b → (r < b) ⊎ (b ≤ r) → (r ≡ r % b) ⊎ (r ≡ r % b + b)
half_of r b some below (inl low) = inl (sym (mod-eq_of_lt low))
half_of r b some below (inr high) =
    let less : r - b < b = omega arith in
    inr (omega (arith, mod-eq-sub-mod {n = r} {m = b} high, mod-eq_of_lt less))

-- the remainder by twice b is that by b, or b more
halves : (q b : ℕ) → 0 < b → (q % (2 * b) ≡ q % b) ⊎ (q % (2 * b) ≡ q % b + b)
halves q b some =
    subst (λ (s : ℕ). (q % (2 * b) ≡ s) ⊎ (q % (2 * b) ≡ s + b)) (mod-mod_of_dvd b q (dvd-mul_left b 2))
    (half_of (q % (2 * b)) b some (mod-lt q (omega arith)) (either (q % (2 * b)) b))

-- the remainders by b, 2 b and 4 b are s, r and t
keeps_power : (n b r s : ℕ) → b ≤ n → n + 1 < 2 * b → s < b → (r ≡ s) ⊎ (r ≡ s + b) → (cond (nat_lt r (n + 1)) r s ≡ cond (nat_lt r n) r s) ⊎ ((cond (nat_lt r n) r s ≡ n - b) × (cond (nat_lt r (n + 1)) r s ≡ n))
keeps_power n b r s low high small half = grind (arith, nat_tests)

twice_power : (n b r s t : ℕ) → n + 1 ≡ 2 * b → s < b → (r ≡ s) ⊎ (r ≡ s + b) → (t ≡ r) ⊎ (t ≡ r + 2 * b) → (cond (nat_lt t (n + 1)) t r ≡ cond (nat_lt r n) r s) ⊎ ((cond (nat_lt r n) r s ≡ n - b) × (cond (nat_lt t (n + 1)) t r ≡ n))
twice_power n b r s t is small half quarter = grind (arith, nat_tests)

-- a home is one of the homes
pub home_inside : (n hash : ℕ) → 0 < n → home n hash < n
home_inside n hash some = grind (arith, nat_tests, power_fits n some, mod-lt (hash / 256) {m = power n})

-- among one home more a key has the home that it had, or it had the home that is divided and now has the new one
divided : (n q : ℕ) → 0 < n → (b : Bool) → nat_eq (suc n) (2 * power n) ≡ b → (home_at (cond b (suc n) (power n)) (n + 1) q ≡ home_at (power n) n q) ⊎ ((home_at (power n) n q ≡ n - power n) × (home_at (cond b (suc n) (power n)) (n + 1) q ≡ n))
divided n q some false is =
    let fit = power_fits n some in
    let b = power n in
    keeps_power n b (q % (2 * b)) (q % b) fit.0 (grind (arith, nat_tests)) (mod-lt q (omega (arith, fit.1))) (halves q b (omega (arith, fit.1)))
divided n q some true is =
    let fit = power_fits n some in
    let b = power n in
    let double : suc n ≡ 2 * b = grind (arith, nat_tests) in
    subst (λ (m : ℕ). (home_at m (n + 1) q ≡ home_at b n q) ⊎ ((home_at b n q ≡ n - b) × (home_at m (n + 1) q ≡ n))) (sym double)
    (twice_power n b (q % (2 * b)) (q % b) (q % (2 * (2 * b))) (omega (arith, double)) (mod-lt q (omega (arith, fit.1))) (halves q b (omega (arith, fit.1))) (halves q (2 * b) (omega (arith, fit.1))))

pub power_more : (n : ℕ) → power (n + 1) ≡ cond (nat_eq (suc n) (2 * power n)) (suc n) (power n)
power_more n = let e : n + 1 ≡ suc n = omega arith in rw e (power_next n)

-- the bits below the power are the remainder by it, and one bit more that by twice the power
pub by_power : (n q : ℕ) → bit_and q (power n - 1) ≡ q % power n
by_power n q = let is = power_is n in subst (λ (p : ℕ). bit_and q (p - 1) ≡ q % p) (sym is.1) (and_mask q is.0)

pub by_twice : (n q : ℕ) → bit_and q (2 * power n - 1) ≡ q % (2 * power n)
by_twice n q =
    let is = power_is n in
    let double : 2 * power n ≡ 2 ^ suc is.0 = ap (λ (m : ℕ). 2 * m) is.1 ∙ sym (pow-succ' 2 is.0) in
    subst (λ (p : ℕ). bit_and q (p - 1) ≡ q % p) (sym double) (and_mask q (suc is.0))

narrowed : (n q : ℕ) (b : Bool) → nat_lt (q % (2 * power n)) n ≡ b → q % (2 * power n) < n → q % (2 * power n) ≡ cond b (q % (2 * power n)) (q % power n)
narrowed n q true test less = refl
narrowed n q false test less = absurd (grind (arith, nat_tests))

widened : (n q : ℕ) (b : Bool) → nat_lt (q % (2 * power n)) n ≡ b → n ≤ q % (2 * power n) → q % power n ≡ cond b (q % (2 * power n)) (q % power n)
widened n q true test more = absurd (grind (arith, nat_tests))
widened n q false test more = refl

-- the home is found by the bits below the power
pub wide_home : (n q p : ℕ) → p ≡ power n → bit_and q (2 * p - 1) < n → bit_and q (2 * p - 1) ≡ home_at (power n) n q
wide_home n q p is low =
    let bits : bit_and q (2 * p - 1) ≡ q % (2 * power n) = ap (λ (m : ℕ). bit_and q (2 * m - 1)) is ∙ by_twice n q in
    let less : q % (2 * power n) < n = omega (arith, bits, low) in
    bits ∙ narrowed n q (nat_lt (q % (2 * power n)) n) refl less

pub other_home : (n q p : ℕ) → p ≡ power n → n ≤ bit_and q (2 * p - 1) → bit_and q (p - 1) ≡ home_at (power n) n q
other_home n q p is high =
    let bits : bit_and q (2 * p - 1) ≡ q % (2 * power n) = ap (λ (m : ℕ). bit_and q (2 * m - 1)) is ∙ by_twice n q in
    let rest : bit_and q (p - 1) ≡ q % power n = ap (λ (m : ℕ). bit_and q (m - 1)) is ∙ by_power n q in
    let more : n ≤ q % (2 * power n) = omega (arith, bits, high) in
    rest ∙ widened n q (nat_lt (q % (2 * power n)) n) refl more

pub growth_divides_one : (n hash : ℕ) → 0 < n → (home (n + 1) hash ≡ home n hash) ⊎ ((home n hash ≡ split_home n) × (home (n + 1) hash ≡ n))
growth_divides_one n hash some =
    subst (λ (m : ℕ). (home_at m (n + 1) (hash / 256) ≡ home n hash) ⊎ ((home n hash ≡ split_home n) × (home_at m (n + 1) (hash / 256) ≡ n)))
    (sym (power_more n)) (divided n (hash / 256) some (nat_eq (suc n) (2 * power n)) refl)
