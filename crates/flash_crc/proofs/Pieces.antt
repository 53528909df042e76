-- Bytes are added to a remainder all at once, as one number, and a number is taken apart into its bytes.
use Rattle.std.proofs.Common.{◌≡◌, ℕ, zero, suc, ◌+◌, ◌*◌, ◌^◌, ◌<◌, List, [], ◌∷◌, length, take, drop, get_or, bit_xor, refl, sym, ap, ◌∙◌, arith, lit<, length-take, length-drop}
use Rattle.std.proofs.lemmas.List.{drop-drop, take-append-drop, take_all}
use Rattle.std.proofs.lemmas.Nat.{xor_comm, xor_block, from_le_bytes-to_le_bytes_8, le_bytes_8}
use Rattle.std.specs.Int.{w64, to_le_bytes, from_le_bytes}
use Rattle.std.specs.Int.Bits.{xor_assoc, xor_zero_l, xor_zero_r}
use Rattle.std.specs.List.{fold}
use Rattle.std.specs.Simd.{first_chunks}
use Rattle.flash_crc.specs.Bytes.{IsBytes}
use Rattle.flash_crc.specs.Crc32c.{after_bits, remainder}
use Rattle.flash_crc.proofs.Bytes.{in_front, behind}
use Rattle.flash_crc.proofs.Linear.{linear, in_turn, shifted, from_zero, beside, joined, halves}

-- the number of these bytes, the lowest first
abbrev pub low_first : List ℕ → ℕ
low_first [] = 0
low_first (byte ∷ rest) = low_first rest * 256 + byte

-- a byte below a number that is moved up by eight bits
low_byte : (high byte : ℕ) → byte < 256 → high * 256 + byte ≡ bit_xor byte (high * 256)
low_byte high byte small =
    let left : high * 256 + 0 ≡ high * 256 = omega arith in
    let right : 0 * 256 + byte ≡ byte = omega arith in
    sym (ap (bit_xor byte) (sym left)
    ∙ ap (λ (x : ℕ). bit_xor x (high * 256 + 0)) (sym right)
    ∙ xor_block 8 0 high byte 0 small (lit< tt)
    ∙ ap (λ (x : ℕ). bit_xor 0 high * 256 + x) (xor_zero_r byte)
    ∙ ap (λ (x : ℕ). x * 256 + byte) (xor_zero_l high))

-- the bytes are added all at once
pub at_once : (r : ℕ) (bytes : List ℕ) → IsBytes bytes → remainder r bytes ≡ after_bits (8 * length bytes) (bit_xor r (low_first bytes))
unfolding after_bits
at_once r [] each = sym (xor_zero_r r)
at_once r (byte ∷ rest) each =
    let high = low_first rest in
    let n = 8 * length rest in
    let count : 8 + n ≡ 8 * length (byte ∷ rest) = omega arith in
    let added : bit_xor r (high * 256 + byte) ≡ bit_xor (bit_xor r byte) (high * 256) =
    ap (bit_xor r) (low_byte high byte (each 0)) ∙ sym (xor_assoc r byte (high * 256)) in
    let one : after_bits 8 (bit_xor r (high * 256 + byte)) ≡ bit_xor (after_bits 8 (bit_xor r byte)) high =
    ap (after_bits 8) added ∙ linear 8 (bit_xor r byte) (high * 256) ∙ ap (bit_xor (after_bits 8 (bit_xor r byte))) (shifted 8 high) in
    at_once (after_bits 8 (bit_xor r byte)) rest (λ i. each (suc i))
    ∙ ap (after_bits n) (sym one)
    ∙ sym (in_turn 8 n (bit_xor r (high * 256 + byte)))
    ∙ ap (λ (k : ℕ). after_bits k (bit_xor r (high * 256 + byte))) count

-- each byte by itself, with zero bytes in place of those after it
abbrev pub apart : ℕ → List ℕ → ℕ
apart gap [] = 0
apart gap (byte ∷ rest) = bit_xor (after_bits (8 * (gap + length rest) + 8) byte) (apart gap rest)

each_apart : (zeros : ℕ) (bytes : List ℕ) → after_bits (8 * zeros) (remainder 0 bytes) ≡ apart zeros bytes
each_apart zeros [] = from_zero (8 * zeros)
each_apart zeros (byte ∷ rest) =
    let n = length rest in
    let count : 8 + (8 * n + 8 * zeros) ≡ 8 * (zeros + n) + 8 = omega arith in
    ap (λ (x : ℕ). after_bits (8 * zeros) (remainder x rest)) (sym (xor_zero_r (after_bits 8 byte)))
    ∙ ap (after_bits (8 * zeros)) (beside (after_bits 8 byte) 0 rest)
    ∙ linear (8 * zeros) (after_bits (8 * n) (after_bits 8 byte)) (remainder 0 rest)
    ∙ ap (bit_xor (after_bits (8 * zeros) (after_bits (8 * n) (after_bits 8 byte)))) (each_apart zeros rest)
    ∙ ap (λ (x : ℕ). bit_xor x (apart zeros rest))
    (sym (in_turn (8 * n) (8 * zeros) (after_bits 8 byte)) ∙ sym (in_turn 8 (8 * n + 8 * zeros) byte) ∙ ap (λ (k : ℕ). after_bits k byte) count)

eight_bytes : (w : ℕ) → IsBytes (to_le_bytes w64 w)
eight_bytes w zero = omega arith
eight_bytes w (suc zero) = omega arith
eight_bytes w (suc (suc zero)) = omega arith
eight_bytes w (suc (suc (suc zero))) = omega arith
eight_bytes w (suc (suc (suc (suc zero)))) = omega arith
eight_bytes w (suc (suc (suc (suc (suc zero))))) = omega arith
eight_bytes w (suc (suc (suc (suc (suc (suc zero)))))) = omega arith
eight_bytes w (suc (suc (suc (suc (suc (suc (suc zero))))))) = omega arith
eight_bytes w (suc (suc (suc (suc (suc (suc (suc (suc i)))))))) = lit< tt

number_of_word : (w : ℕ) → w < 2 ^ 64 → low_first (to_le_bytes w64 w) ≡ w
number_of_word w fits = omega (arith, from_le_bytes-to_le_bytes_8 w fits)

-- eight bytes as one number
word_of_bytes : (bytes : List ℕ) → length bytes ≡ 8 → IsBytes bytes → low_first bytes ≡ from_le_bytes w64 bytes
word_of_bytes bytes size each =
    let n = from_le_bytes w64 bytes in
    let fits : n < 2 ^ 64 = omega (arith, each 0, each 1, each 2, each 3, each 4, each 5, each 6, each 7) in
    ap low_first (sym (le_bytes_8 bytes n size each refl)) ∙ number_of_word n fits

-- a number of eight bytes, each of them by itself
word_apart : (zeros word : ℕ) → word < 2 ^ 64 → apart zeros (to_le_bytes w64 word) ≡ after_bits (8 * zeros + 64) word
word_apart zeros word fits =
    let count : 64 + 8 * zeros ≡ 8 * zeros + 64 = omega arith in
    sym (each_apart zeros (to_le_bytes w64 word))
    ∙ ap (after_bits (8 * zeros)) (at_once 0 (to_le_bytes w64 word) (eight_bytes word))
    ∙ ap (λ (x : ℕ). after_bits (8 * zeros) (after_bits 64 x)) (number_of_word word fits)
    ∙ sym (in_turn 64 (8 * zeros) word)
    ∙ ap (λ (n : ℕ). after_bits n word) count

regroup : (a b c d e f g h : ℕ) → bit_xor (bit_xor (bit_xor a b) (bit_xor c d)) (bit_xor (bit_xor e f) (bit_xor g h)) ≡ bit_xor a (bit_xor b (bit_xor c (bit_xor d (bit_xor e (bit_xor f (bit_xor g (bit_xor h 0)))))))
regroup a b c d e f g h = simp (xor_assoc, xor_zero_r)

-- the same from what is in the tables
pub word_from : (zeros word : ℕ) (bytes : List ℕ) → word < 2 ^ 64 → bytes ≡ to_le_bytes w64 word → (a b c d e f g h : ℕ) → a ≡ after_bits (8 * (zeros + 7) + 8) (get_or bytes 0 0) → b ≡ after_bits (8 * (zeros + 6) + 8) (get_or bytes 1 0) → c ≡ after_bits (8 * (zeros + 5) + 8) (get_or bytes 2 0) → d ≡ after_bits (8 * (zeros + 4) + 8) (get_or bytes 3 0) → e ≡ after_bits (8 * (zeros + 3) + 8) (get_or bytes 4 0) → f ≡ after_bits (8 * (zeros + 2) + 8) (get_or bytes 5 0) → g ≡ after_bits (8 * (zeros + 1) + 8) (get_or bytes 6 0) → h ≡ after_bits (8 * zeros + 8) (get_or bytes 7 0)
    → bit_xor (bit_xor (bit_xor a b) (bit_xor c d)) (bit_xor (bit_xor e f) (bit_xor g h)) ≡ after_bits (8 * zeros + 64) word
word_from zeros word bytes fits is a b c d e f g h a_is b_is c_is d_is e_is f_is g_is h_is =
    let last : 8 * zeros + 8 ≡ 8 * (zeros + 0) + 8 = omega arith in
    let is_a = a_is ∙ ap (λ (l : List ℕ). after_bits (8 * (zeros + 7) + 8) (get_or l 0 0)) is in
    let is_b = b_is ∙ ap (λ (l : List ℕ). after_bits (8 * (zeros + 6) + 8) (get_or l 1 0)) is in
    let is_c = c_is ∙ ap (λ (l : List ℕ). after_bits (8 * (zeros + 5) + 8) (get_or l 2 0)) is in
    let is_d = d_is ∙ ap (λ (l : List ℕ). after_bits (8 * (zeros + 4) + 8) (get_or l 3 0)) is in
    let is_e = e_is ∙ ap (λ (l : List ℕ). after_bits (8 * (zeros + 3) + 8) (get_or l 4 0)) is in
    let is_f = f_is ∙ ap (λ (l : List ℕ). after_bits (8 * (zeros + 2) + 8) (get_or l 5 0)) is in
    let is_g = g_is ∙ ap (λ (l : List ℕ). after_bits (8 * (zeros + 1) + 8) (get_or l 6 0)) is in
    let is_h = h_is ∙ ap (λ (l : List ℕ). after_bits (8 * zeros + 8) (get_or l 7 0)) is ∙ ap (λ (n : ℕ). after_bits n (get_or (to_le_bytes w64 word) 7 0)) last in
    regroup a b c d e f g h ∙ rw (is_a, is_b, is_c, is_d, is_e, is_f, is_g, is_h) (word_apart zeros word fits)

-- sixteen bytes as two numbers
pub two_words : (r : ℕ) (bytes : List ℕ) → length bytes ≡ 16 → IsBytes bytes
    → remainder r bytes ≡ bit_xor (after_bits 64 (from_le_bytes w64 (take 8 (drop 8 bytes)))) (after_bits 128 (bit_xor (from_le_bytes w64 (take 8 bytes)) r))
two_words r bytes size each =
    let front = take 8 bytes in
    let back = drop 8 bytes in
    let front_size : length front ≡ 8 = omega (arith, length-take 8 bytes) in
    let back_size : length back ≡ 8 = omega (arith, length-drop 8 bytes) in
    let first = from_le_bytes w64 front in
    let second = from_le_bytes w64 (take 8 back) in
    let front_is : remainder r front ≡ after_bits 64 (bit_xor first r) =
    at_once r front (in_front 8 bytes each)
    ∙ ap (λ (n : ℕ). after_bits (8 * n) (bit_xor r (low_first front))) front_size
    ∙ ap (λ (n : ℕ). after_bits 64 (bit_xor r n)) (word_of_bytes front front_size (in_front 8 bytes each))
    ∙ ap (after_bits 64) (xor_comm r first) in
    let back_is : remainder 0 back ≡ after_bits 64 second =
    at_once 0 back (behind 8 bytes each)
    ∙ ap (λ (n : ℕ). after_bits (8 * n) (low_first back)) back_size
    ∙ ap (after_bits 64) (word_of_bytes back back_size (behind 8 bytes each))
    ∙ ap (λ (l : List ℕ). after_bits 64 (from_le_bytes w64 l)) (sym (take_all 8 back (omega arith))) in
    ap (remainder r) (sym (take-append-drop 8 bytes))
    ∙ halves r front back
    ∙ ap (λ (n : ℕ). bit_xor (after_bits (8 * n) (remainder r front)) (remainder 0 back)) back_size
    ∙ ap (λ (x : ℕ). bit_xor (after_bits 64 x) (remainder 0 back)) front_is
    ∙ ap (λ (x : ℕ). bit_xor x (remainder 0 back)) (sym (in_turn 64 64 (bit_xor first r)))
    ∙ ap (bit_xor (after_bits 128 (bit_xor first r))) back_is
    ∙ xor_comm (after_bits 128 (bit_xor first r)) (after_bits 64 second)

-- whole blocks, and then the bytes after them
pub blocks_joined : (r k : ℕ) (bytes : List ℕ) → remainder (fold remainder r (first_chunks 16 k bytes)) (drop (k * 16) bytes) ≡ remainder r bytes
blocks_joined r zero bytes = refl
blocks_joined r (suc k) bytes =
    let count : suc k * 16 ≡ 16 + k * 16 = omega arith in
    let front = remainder r (take 16 bytes) in
    ap (λ (n : ℕ). remainder (fold remainder front (first_chunks 16 k (drop 16 bytes))) (drop n bytes)) count
    ∙ ap (remainder (fold remainder front (first_chunks 16 k (drop 16 bytes)))) (sym (drop-drop (k * 16) 16 bytes))
    ∙ blocks_joined front k (drop 16 bytes)
    ∙ sym (joined r (take 16 bytes) (drop 16 bytes))
    ∙ ap (remainder r) (take-append-drop 16 bytes)
