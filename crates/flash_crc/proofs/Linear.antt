-- The steps of the division are linear in xor, so what a remainder and the bytes after it give can be taken
-- apart byte by byte.
use Rattle.std.proofs.Common.{◌≡◌, ℕ, zero, suc, ◌+◌, ◌*◌, ◌/◌, ◌%◌, ◌^◌, ◌<◌, ◌⊎◌, inl, inr, List, [], ◌∷◌, ◌++◌, length, bit_xor, nat_eq, if◌then◌else◌, refl, sym, ap, ◌∙◌, arith, lit<}
use Rattle.std.proofs.Math.Nat.{pow-suc, mul_assoc}
use Rattle.std.proofs.lemmas.Nat.{xor_shr, xor_mod, xor_comm, xor_block}
use Rattle.std.specs.Int.Bits.{xor_assoc, xor_zero_l, xor_zero_r}
use Rattle.flash_crc.specs.Crc32c.{polynomial, after_bit, after_bits, remainder}

-- what is taken away for a bit
abbrev taken : ℕ → ℕ
taken bit = if nat_eq bit 1 then polynomial else 0

pub swap : (a b c d : ℕ) → bit_xor (bit_xor a b) (bit_xor c d) ≡ bit_xor (bit_xor a c) (bit_xor b d)
swap a b c d =
    xor_assoc a b (bit_xor c d)
    ∙ ap (bit_xor a) (sym (xor_assoc b c d) ∙ ap (λ (x : ℕ). bit_xor x d) (xor_comm b c) ∙ xor_assoc c b d)
    ∙ sym (xor_assoc a c (bit_xor b d))

bit_below : (n : ℕ) → n < 2 → (n ≡ 0) ⊎ (n ≡ 1)
bit_below zero lt = inl refl
bit_below (suc zero) lt = inr refl
bit_below (suc (suc n)) lt = absurd (omega arith)

bit_cases : (r : ℕ) → (r % 2 ≡ 0) ⊎ (r % 2 ≡ 1)
bit_cases r = bit_below (r % 2) (omega arith)

by_bit : (r : ℕ) → after_bit r ≡ bit_xor (r / 2) (taken (r % 2))
by_bit r = elim (bit_cases r) [ inl z ↦ rw z (sym (xor_zero_r (r / 2))) | inr o ↦ rw o refl ]

taken_xor : (a b : ℕ) → taken (bit_xor (a % 2) (b % 2)) ≡ bit_xor (taken (a % 2)) (taken (b % 2))
taken_xor a b =
    elim (bit_cases a) [
      | inl z ↦ elim (bit_cases b) [ inl y ↦ rw (z, y) refl | inr y ↦ rw (z, y) refl ]
      | inr z ↦ elim (bit_cases b) [ inl y ↦ rw (z, y) refl | inr y ↦ rw (z, y) refl ]
    ]

bit_linear : (a b : ℕ) → after_bit (bit_xor a b) ≡ bit_xor (after_bit a) (after_bit b)
bit_linear a b =
    by_bit (bit_xor a b)
    ∙ ap (λ (x : ℕ). bit_xor x (taken (bit_xor a b % 2))) (xor_shr a b 1)
    ∙ ap (λ (x : ℕ). bit_xor (bit_xor (a / 2) (b / 2)) (taken x)) (xor_mod a b 1)
    ∙ ap (bit_xor (bit_xor (a / 2) (b / 2))) (taken_xor a b)
    ∙ swap (a / 2) (b / 2) (taken (a % 2)) (taken (b % 2))
    ∙ sym (ap (λ (x : ℕ). bit_xor x (after_bit b)) (by_bit a) ∙ ap (bit_xor (bit_xor (a / 2) (taken (a % 2)))) (by_bit b))

pub linear : (n a b : ℕ) → after_bits n (bit_xor a b) ≡ bit_xor (after_bits n a) (after_bits n b)
unfolding after_bits
linear zero a b = refl
linear (suc n) a b = ap (after_bits n) (bit_linear a b) ∙ linear n (after_bit a) (after_bit b)

pub in_turn : (m n r : ℕ) → after_bits (m + n) r ≡ after_bits n (after_bits m r)
unfolding after_bits
in_turn zero n r = let k : zero + n ≡ n = omega arith in ap (λ (j : ℕ). after_bits j r) k
in_turn (suc m) n r =
    let k : suc m + n ≡ suc (m + n) = omega arith in
    ap (λ (j : ℕ). after_bits j r) k ∙ in_turn m n (after_bit r)

-- steps over zeros take nothing away
doubled : (q : ℕ) → after_bit (q * 2) ≡ q
doubled q =
    let low : q * 2 % 2 ≡ 0 = omega arith in
    let high : q * 2 / 2 ≡ q = omega arith in
    rw (low, high) refl

pub shifted : (n q : ℕ) → after_bits n (q * 2 ^ n) ≡ q
unfolding after_bits
shifted zero q = omega arith
shifted (suc n) q =
    let next : q * 2 ^ suc n ≡ q * 2 ^ n * 2 = ap (λ (x : ℕ). q * x) (pow-suc 2 n) ∙ sym (mul_assoc q (2 ^ n) 2) in
    ap (λ (x : ℕ). after_bits (suc n) x) next ∙ ap (after_bits n) (doubled (q * 2 ^ n)) ∙ shifted n q

pub from_zero : (n : ℕ) → after_bits n 0 ≡ 0
unfolding after_bits
from_zero zero = refl
from_zero (suc n) = from_zero n

apart : (r : ℕ) → r ≡ bit_xor (r / 256 * 256) (r % 256)
apart r =
    let whole : r / 256 * 256 + r % 256 ≡ r = omega arith in
    let low : r % 256 < 2 ^ 8 = omega arith in
    let left : r / 256 * 256 + 0 ≡ r / 256 * 256 = omega arith in
    let right : 0 * 256 + r % 256 ≡ r % 256 = omega arith in
    sym (ap (λ (x : ℕ). bit_xor x (r % 256)) (sym left)
    ∙ ap (bit_xor (r / 256 * 256 + 0)) (sym right)
    ∙ xor_block 8 (r / 256) 0 0 (r % 256) (lit< tt) low
    ∙ ap (λ (x : ℕ). x * 256 + bit_xor 0 (r % 256)) (xor_zero_r (r / 256))
    ∙ ap (λ (x : ℕ). r / 256 * 256 + x) (xor_zero_l (r % 256))
    ∙ whole)

-- a byte meets the lowest byte of the remainder, and the others move down
pub byte_step : (r byte : ℕ) → after_bits 8 (bit_xor r byte) ≡ bit_xor (r / 256) (after_bits 8 (bit_xor (r % 256) byte))
byte_step r byte =
    ap (λ (x : ℕ). after_bits 8 (bit_xor x byte)) (apart r)
    ∙ ap (after_bits 8) (xor_assoc (r / 256 * 256) (r % 256) byte)
    ∙ linear 8 (r / 256 * 256) (bit_xor (r % 256) byte)
    ∙ ap (λ (x : ℕ). bit_xor x (after_bits 8 (bit_xor (r % 256) byte))) (shifted 8 (r / 256))

-- a part of the remainder goes on by itself
pub beside : (a b : ℕ) (bytes : List ℕ) → remainder (bit_xor a b) bytes ≡ bit_xor (after_bits (8 * length bytes) a) (remainder b bytes)
unfolding after_bits
beside a b [] = refl
beside a b (byte ∷ rest) =
    let count : 8 * length (byte ∷ rest) ≡ 8 + 8 * length rest = omega arith in
    ap (λ (x : ℕ). remainder x rest) (ap (after_bits 8) (xor_assoc a b byte) ∙ linear 8 a (bit_xor b byte))
    ∙ beside (after_bits 8 a) (after_bits 8 (bit_xor b byte)) rest
    ∙ ap (λ (x : ℕ). bit_xor x (remainder (after_bits 8 (bit_xor b byte)) rest)) (sym (in_turn 8 (8 * length rest) a) ∙ ap (λ (k : ℕ). after_bits k a) (sym count))

-- the bytes of two pieces, one piece after the other
pub joined : (r : ℕ) (front back : List ℕ) → remainder r (front ++ back) ≡ remainder (remainder r front) back
joined r [] back = refl
joined r (byte ∷ front) back = joined (after_bits 8 (bit_xor r byte)) front back

-- the bytes of two pieces, each by itself
pub halves : (r : ℕ) (front back : List ℕ) → remainder r (front ++ back) ≡ bit_xor (after_bits (8 * length back) (remainder r front)) (remainder 0 back)
halves r front back =
    joined r front back
    ∙ ap (λ (x : ℕ). remainder x back) (sym (xor_zero_r (remainder r front)))
    ∙ beside (remainder r front) 0 back
