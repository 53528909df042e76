-- The checksum of bytes has 32 bits.
use Rattle.std.proofs.Common.{ℕ, zero, suc, ◌/◌, ◌^◌, ◌<◌, List, [], ◌∷◌, Bool, true, false, bit_xor, if◌then◌else◌, nat_eq, ◌%◌, arith, lit<}
use Rattle.std.proofs.lemmas.Nat.{xor_lt}
use Rattle.flash_crc.specs.Bytes.{IsBytes}
use Rattle.flash_crc.specs.Crc32c.{polynomial, all_ones, after_bit, after_bits, remainder, crc32c}

bit_fits : (r : ℕ) → r < 2 ^ 32 → after_bit r < 2 ^ 32
bit_fits r fits =
    let half : r / 2 < 2 ^ 32 = omega arith in
    let taken : bit_xor (r / 2) polynomial < 2 ^ 32 = xor_lt 32 (r / 2) polynomial half (lit< tt) in
    elim (nat_eq (r % 2) 1) as (λ (b : Bool). (if b then bit_xor (r / 2) polynomial else r / 2) < 2 ^ 32) [ true ↦ taken | false ↦ half ]

bits_fit : (n r : ℕ) → r < 2 ^ 32 → after_bits n r < 2 ^ 32
unfolding after_bits
bits_fit zero r fits = fits
bits_fit (suc n) r fits = bits_fit n (after_bit r) (bit_fits r fits)

remainder_fits : (r : ℕ) (bytes : List ℕ) → r < 2 ^ 32 → IsBytes bytes → remainder r bytes < 2 ^ 32
remainder_fits r [] fits each = fits
remainder_fits r (byte ∷ rest) fits each =
    let small : byte < 256 = each 0 in
    remainder_fits (after_bits 8 (bit_xor r byte)) rest (bits_fit 8 (bit_xor r byte) (xor_lt 32 r byte fits (omega arith))) (λ i. each (suc i))

pub crc32c_fits : (bytes : List ℕ) → IsBytes bytes → crc32c bytes < 2 ^ 32
unfolding crc32c
crc32c_fits bytes each = xor_lt 32 (remainder all_ones bytes) all_ones (remainder_fits all_ones bytes (lit< tt) each) (lit< tt)
