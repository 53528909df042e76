-- The pieces of lists of bytes, and the numbers that begin in them.
use Rattle.std.proofs.Common.{◌≡◌, ℕ, ◌+◌, ◌^◌, ◌<◌, ◌≤◌, List, ◌++◌, length, take, drop, refl, sym, ap, ◌∙◌, arith, length-drop, length-take}
use Rattle.std.proofs.lemmas.List.{drop-drop, take-append-drop}
use Rattle.std.proofs.lemmas.Nat.{be_bytes_4, be_bytes_8}
use Rattle.std.specs.Int.{to_be_bytes, w32, w64}
use Rattle.flash_crc.specs.Bytes.{IsBytes}
use Rattle.flash_crc.proofs.Bytes.{in_front, behind}
use Rattle.flash_record.specs.Reading.{number_at}

-- the bytes from one place to another, and those from there on
pub piece : (from n to : ℕ) (bytes : List ℕ) → from + n ≡ to → drop from bytes ≡ take n (drop from bytes) ++ drop to bytes
piece from n to bytes is =
    sym (take-append-drop n (drop from bytes))
    ∙ ap (λ (l : List ℕ). take n (drop from bytes) ++ l) (drop-drop n from bytes ∙ ap (λ (k : ℕ). drop k bytes) is)

pub number_32 : (from to : ℕ) (bytes : List ℕ) → IsBytes bytes → from + 4 ≡ to → to ≤ length bytes → drop from bytes ≡ to_be_bytes w32 (number_at w32 from bytes) ++ drop to bytes
number_32 from to bytes each is within =
    let part = take 4 (drop from bytes) in
    let size : length part ≡ 4 = omega (arith, length-take 4 (drop from bytes), length-drop from bytes) in
    piece from 4 to bytes is
    ∙ ap (λ (l : List ℕ). l ++ drop to bytes) (sym (be_bytes_4 part (number_at w32 from bytes) size (in_front 4 (drop from bytes) (behind from bytes each)) refl))

pub number_64 : (from to : ℕ) (bytes : List ℕ) → IsBytes bytes → from + 8 ≡ to → to ≤ length bytes → drop from bytes ≡ to_be_bytes w64 (number_at w64 from bytes) ++ drop to bytes
number_64 from to bytes each is within =
    let part = take 8 (drop from bytes) in
    let size : length part ≡ 8 = omega (arith, length-take 8 (drop from bytes), length-drop from bytes) in
    piece from 8 to bytes is
    ∙ ap (λ (l : List ℕ). l ++ drop to bytes) (sym (be_bytes_8 part (number_at w64 from bytes) size (in_front 8 (drop from bytes) (behind from bytes each)) refl))

pub fits_32 : (from : ℕ) (bytes : List ℕ) → IsBytes bytes → number_at w32 from bytes < 2 ^ 32
fits_32 from bytes each =
    let fits = in_front 4 (drop from bytes) (behind from bytes each) in omega (arith, fits 0, fits 1, fits 2, fits 3)

pub fits_64 : (from : ℕ) (bytes : List ℕ) → IsBytes bytes → number_at w64 from bytes < 2 ^ 64
fits_64 from bytes each =
    let fits = in_front 8 (drop from bytes) (behind from bytes each) in omega (arith, fits 0, fits 1, fits 2, fits 3, fits 4, fits 5, fits 6, fits 7)
