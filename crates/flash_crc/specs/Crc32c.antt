-- CRC-32C (Castagnoli; RFC 3720, section 12.1): the remainder by a polynomial, taken bit by bit. The lowest
-- bit of a byte comes first, so a remainder of 32 bits is kept with its bits reversed as well.
use Rattle.std.specs.Prelude.{ℕ, zero, suc, ◌/◌, ◌%◌, List, [], ◌∷◌, bit_xor, nat_eq, if◌then◌else◌}

-- the polynomial 0x1EDC6F41, its 32 bits reversed
abbrev pub polynomial : ℕ
polynomial = 0x82F63B78

-- 32 ones
abbrev pub all_ones : ℕ
all_ones = 0xFFFFFFFF

-- one step of the division: a bit leaves, and where it was 1 the polynomial is taken away
abbrev pub after_bit : ℕ → ℕ
after_bit r = if nat_eq (r % 2) 1 then bit_xor (r / 2) polynomial else r / 2

-- n steps
unfoldable pub after_bits : ℕ → ℕ → ℕ
after_bits zero r = r
after_bits (suc n) r = after_bits n (after_bit r)

-- the remainder after these bytes: each is added into the low bits, and eight steps follow
abbrev pub remainder : ℕ → List ℕ → ℕ
remainder r [] = r
remainder r (byte ∷ rest) = remainder (after_bits 8 (bit_xor r byte)) rest

-- the checksum: the remainder from all ones, with each of its bits turned
unfoldable pub crc32c : List ℕ → ℕ
crc32c bytes = bit_xor (remainder all_ones bytes) all_ones
