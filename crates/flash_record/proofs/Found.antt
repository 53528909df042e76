-- What was read is at the front.
use Rattle.std.proofs.Common.{◌≡◌, ℕ, ◌+◌, ◌<◌, ◌≤◌, List, [], ◌∷◌, ◌++◌, length, take, drop, get_or, Bool, true, false, ◌||◌, ◌&&◌, nat_le, nat_eq, refl, sym, ap, ◌∙◌, arith, append_assoc, length-drop, length-take}
use Rattle.std.proofs.lemmas.Bool.{and_parts, ltb-false, lt-leb, leb-true, eqb-true}
use Rattle.std.proofs.lemmas.List.{take_at}
use Rattle.std.specs.Int.{to_be_bytes, w32, w64}
use Rattle.flash_crc.specs.Crc32c.{crc32c}
use Rattle.flash_record.specs.Record.{Parts, Fits, content, record_bytes, record_length}
use Rattle.flash_record.specs.Reading.{number_at, agrees_at, agrees_with_magic, key_length, value_length, checksum_offset, parts_at}
use Rattle.flash_crc.specs.Bytes.{IsBytes}
use Rattle.flash_record.proofs.Bytes.{piece, number_32, number_64, fits_32, fits_64}
use Rattle.flash_record.proofs.Offsets.{content_length}
use Rattle.flash_record.proofs.Order.{Passes}

second : (a b : Bool) → a ≡ false → (a || b) ≡ true → b ≡ true
second true b false_is holds = absurd (cc false_is)
second false b false_is holds = holds

at_place : (bytes : List ℕ) (place byte : ℕ) → place < length bytes → agrees_at bytes place byte ≡ true → get_or bytes place 0 ≡ byte
at_place bytes place byte within is =
    eqb-true _ _ (second (nat_le (length bytes) place) (nat_eq (get_or bytes place 0) byte) (lt-leb _ _ within) is)

magic_bytes : (bytes : List ℕ) → 4 ≤ length bytes → get_or bytes 0 0 ≡ 0x46 → get_or bytes 1 0 ≡ 0x52 → get_or bytes 2 0 ≡ 0x01 → bytes ≡ 0x46 ∷ 0x52 ∷ 0x01 ∷ key_length bytes ∷ drop 4 bytes
magic_bytes [] long a b c = absurd (omega arith)
magic_bytes (w ∷ []) long a b c = absurd (omega arith)
magic_bytes (w ∷ x ∷ []) long a b c = absurd (omega arith)
magic_bytes (w ∷ x ∷ y ∷ []) long a b c = absurd (omega arith)
magic_bytes (w ∷ x ∷ y ∷ z ∷ rest) long a b c =
    ap (λ (n : ℕ). n ∷ x ∷ y ∷ z ∷ rest) a ∙ ap (λ (n : ℕ). 0x46 ∷ n ∷ y ∷ z ∷ rest) b ∙ ap (λ (n : ℕ). 0x46 ∷ 0x52 ∷ n ∷ z ∷ rest) c

magic_is : (bytes : List ℕ) → 4 ≤ length bytes → agrees_with_magic bytes ≡ true → bytes ≡ 0x46 ∷ 0x52 ∷ 0x01 ∷ key_length bytes ∷ drop 4 bytes
magic_is bytes long is =
    let front = and_parts (agrees_at bytes 0 0x46 && agrees_at bytes 1 0x52) (agrees_at bytes 2 0x01) is in
    let two = and_parts (agrees_at bytes 0 0x46) (agrees_at bytes 1 0x52) front.0 in
    magic_bytes bytes long (at_place bytes 0 0x46 (omega arith) two.0) (at_place bytes 1 0x52 (omega arith) two.1) (at_place bytes 2 0x01 (omega arith) front.1)

size_of : (n place : ℕ) (bytes : List ℕ) → place + n ≤ length bytes → length (take n (drop place bytes)) ≡ n
size_of n place bytes within = omega (arith, length-take n (drop place bytes), length-drop place bytes)

-- the list whose content is that of these parts, where k and v stand for the lengths
shape : ℕ → ℕ → Parts → List ℕ → List ℕ
shape k v p back =
    (0x46 ∷ 0x52 ∷ 0x01 ∷ k ∷ to_be_bytes w32 p.flags) ++ (to_be_bytes w32 v ++ (to_be_bytes w64 p.cas ++ (to_be_bytes w64 p.version ++ ((p.key ++ p.value) ++ back))))

shape_is : (p : Parts) (back : List ℕ) → shape (length p.key) (length p.value) p back ≡ content p ++ back
unfolding shape content
shape_is p back = refl

has_shape : (bytes : List ℕ) → IsBytes bytes → 28 ≤ length bytes → agrees_with_magic bytes ≡ true → bytes ≡ shape (key_length bytes) (value_length bytes) (parts_at bytes) (drop (checksum_offset bytes) bytes)
unfolding shape
has_shape bytes each head magic =
    let p = parts_at bytes in
    let k = key_length bytes in
    let v = value_length bytes in
    let place = checksum_offset bytes in
    magic_is bytes (omega arith) magic
    ∙ ap (λ (l : List ℕ). 0x46 ∷ 0x52 ∷ 0x01 ∷ k ∷ l) (number_32 4 8 bytes each refl (omega arith)
    ∙ ap (λ (l : List ℕ). to_be_bytes w32 p.flags ++ l) (number_32 8 12 bytes each refl (omega arith)
    ∙ ap (λ (l : List ℕ). to_be_bytes w32 v ++ l) (number_64 12 20 bytes each refl (omega arith)
    ∙ ap (λ (l : List ℕ). to_be_bytes w64 p.cas ++ l) (number_64 20 28 bytes each refl head
    ∙ ap (λ (l : List ℕ). to_be_bytes w64 p.version ++ l) (piece 28 k (28 + k) bytes refl
    ∙ ap (λ (l : List ℕ). p.key ++ l) (piece (28 + k) v place bytes refl)
    ∙ sym (append_assoc p.key p.value (drop place bytes)))))))

-- the content is at the front
content_is : (bytes : List ℕ) → IsBytes bytes → 28 ≤ length bytes → checksum_offset bytes ≤ length bytes → agrees_with_magic bytes ≡ true → bytes ≡ content (parts_at bytes) ++ drop (checksum_offset bytes) bytes
content_is bytes each head long magic =
    let p = parts_at bytes in
    let back = drop (checksum_offset bytes) bytes in
    has_shape bytes each head magic
    ∙ ap (λ (k : ℕ). shape k (value_length bytes) p back) (sym (size_of (key_length bytes) 28 bytes (omega arith)))
    ∙ ap (λ (v : ℕ). shape (length p.key) v p back) (sym (size_of (value_length bytes) (28 + key_length bytes) bytes long))
    ∙ shape_is p back

-- what passes the tests is a record of its parts, with the rest after it
pub stands : (bytes : List ℕ) → IsBytes bytes → Passes bytes → (Fits (parts_at bytes)) × (bytes ≡ record_bytes (parts_at bytes) ++ drop (record_length (parts_at bytes)) bytes)
unfolding record_bytes
stands bytes each passes =
    let p = parts_at bytes in
    let place = checksum_offset bytes in
    let head : 32 ≤ length bytes = ltb-false _ _ passes.head in
    let room : place + 4 ≤ length bytes = ltb-false _ _ passes.room in
    let key = and_parts (nat_le 1 (key_length bytes)) (nat_le (key_length bytes) 250) passes.key in
    let key_size : length p.key ≡ key_length bytes = size_of (key_length bytes) 28 bytes (omega arith) in
    let value_size : length p.value ≡ value_length bytes = size_of (value_length bytes) (28 + key_length bytes) bytes (omega arith) in
    let is : bytes ≡ content p ++ drop place bytes = content_is bytes each (omega arith) (omega arith) passes.magic in
    let size : length (content p) ≡ place = content_length p ∙ ap (λ (k : ℕ). 28 + k + length p.value) key_size ∙ ap (λ (v : ℕ). 28 + key_length bytes + v) value_size in
    let front : take place bytes ≡ content p = ap (take place) is ∙ take_at (content p) (drop place bytes) place size in
    let sum : number_at w32 place bytes ≡ crc32c (content p) = eqb-true _ _ passes.checksum ∙ ap crc32c front in
    let next : place + 4 ≡ record_length p = omega arith in
    let back : drop place bytes ≡ to_be_bytes w32 (crc32c (content p)) ++ drop (record_length p) bytes =
    number_32 place (place + 4) bytes each refl room
    ∙ ap (λ (n : ℕ). to_be_bytes w32 n ++ drop (place + 4) bytes) sum
    ∙ ap (λ (n : ℕ). to_be_bytes w32 (crc32c (content p)) ++ drop n bytes) next in (
      record {
        key = (omega (arith, leb-true _ _ key.0), omega (arith, leb-true _ _ key.1));
        flags = fits_32 4 bytes each;
        cas = fits_64 12 bytes each;
        version = fits_64 20 bytes each;
        value = omega (arith, fits_32 8 bytes each);
      },
      is ∙ ap (λ (l : List ℕ). content p ++ l) back ∙ sym (append_assoc (content p) (to_be_bytes w32 (crc32c (content p))) (drop (record_length p) bytes)),
    )
