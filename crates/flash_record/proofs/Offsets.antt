-- The places of a record's parts, and that what was written is read again.
use Rattle.std.proofs.Common.{◌≡◌, ℕ, ◌+◌, ◌^◌, ◌<◌, List, ◌∷◌, ◌++◌, length, take, drop, true, false, nat_le, subst, Ok, refl, sym, ap, ◌∙◌, arith, append_assoc, length-append}
use Rattle.std.proofs.lemmas.Bool.{le-ltb, eq-eqb, or_right}
use Rattle.std.proofs.lemmas.List.{take_at, drop_at, drop-drop}
use Rattle.std.proofs.lemmas.Nat.{from_be_bytes-to_be_bytes_4, from_be_bytes-to_be_bytes_8}
use Rattle.std.specs.Int.{to_be_bytes, from_be_bytes, w32, w64}
use Rattle.flash_crc.specs.Crc32c.{crc32c}
use Rattle.flash_record.specs.Record.{Parts, Fits, content, record_bytes, record_length}
use Rattle.flash_record.specs.Reading.{record_at_front, number_at, is_end, agrees_with_magic, key_length, value_length, checksum_offset, parts_at}
use Rattle.flash_crc.proofs.Bounds.{crc32c_fits}
use Rattle.flash_crc.specs.Bytes.{IsBytes}
use Rattle.flash_crc.proofs.Bytes.{in_front}
use Rattle.flash_record.proofs.Order.{good_key, all_pass}

-- the value, the checksum and what follows
behind_key : Parts → List ℕ → List ℕ
behind_key p rest = p.value ++ (to_be_bytes w32 (crc32c (content p)) ++ rest)

-- the key, and all that
behind_head : Parts → List ℕ → List ℕ
behind_head p rest = p.key ++ behind_key p rest

-- the 28 bytes before them
head : Parts → List ℕ
head p = (0x46 ∷ 0x52 ∷ 0x01 ∷ length p.key ∷ to_be_bytes w32 p.flags) ++ (to_be_bytes w32 (length p.value) ++ (to_be_bytes w64 p.cas ++ to_be_bytes w64 p.version))

pub content_length : (p : Parts) → length (content p) ≡ 28 + length p.key + length p.value
unfolding content
content_length p = omega (arith, length-append p.key p.value)

pub record_bytes_length : (p : Parts) → length (record_bytes p) ≡ record_length p
unfolding record_bytes
record_bytes_length p = omega (arith, length-append (content p) (to_be_bytes w32 (crc32c (content p))), content_length p)

split : (p : Parts) (rest : List ℕ) → record_bytes p ++ rest ≡ head p ++ behind_head p rest
unfolding record_bytes content head behind_head behind_key
split p rest =
    ap (λ (l : List ℕ). head p ++ l)
    (append_assoc (p.key ++ p.value) (to_be_bytes w32 (crc32c (content p))) rest ∙ append_assoc p.key p.value (to_be_bytes w32 (crc32c (content p)) ++ rest))

from_checksum : (p : Parts) (rest : List ℕ) → record_bytes p ++ rest ≡ content p ++ (to_be_bytes w32 (crc32c (content p)) ++ rest)
unfolding record_bytes
from_checksum p rest = append_assoc (content p) (to_be_bytes w32 (crc32c (content p))) rest

key_length_is : (p : Parts) (l : List ℕ) → key_length (head p ++ l) ≡ length p.key
unfolding head
key_length_is p l = refl

value_length_is : (p : Parts) (l : List ℕ) → length p.value < 2 ^ 32 → value_length (head p ++ l) ≡ length p.value
unfolding head
value_length_is p l fits = from_be_bytes-to_be_bytes_4 (length p.value) fits

flags_is : (p : Parts) (l : List ℕ) → p.flags < 2 ^ 32 → number_at w32 4 (head p ++ l) ≡ p.flags
unfolding head
flags_is p l fits = from_be_bytes-to_be_bytes_4 p.flags fits

cas_is : (p : Parts) (l : List ℕ) → p.cas < 2 ^ 64 → number_at w64 12 (head p ++ l) ≡ p.cas
unfolding head
cas_is p l fits = from_be_bytes-to_be_bytes_8 p.cas fits

version_is : (p : Parts) (l : List ℕ) → p.version < 2 ^ 64 → number_at w64 20 (head p ++ l) ≡ p.version
unfolding head
version_is p l fits = from_be_bytes-to_be_bytes_8 p.version fits

from_28 : (p : Parts) (l : List ℕ) → drop 28 (head p ++ l) ≡ l
unfolding head
from_28 p l = refl

parts_same : (p q : Parts) → p.key ≡ q.key → p.flags ≡ q.flags → p.cas ≡ q.cas → p.version ≡ q.version → p.value ≡ q.value → p ≡ q
parts_same p q key flags cas version value = λ i. record { key = key i; flags = flags i; cas = cas i; version = version i; value = value i }

at_front : (p : Parts) (rest : List ℕ) → take (length p.key) (behind_head p rest) ≡ p.key
unfolding behind_head
at_front p rest = take_at p.key (behind_key p rest) (length p.key) refl

past_key : (p : Parts) (rest : List ℕ) → drop (length p.key) (behind_head p rest) ≡ behind_key p rest
unfolding behind_head
past_key p rest = drop_at p.key (behind_key p rest) (length p.key) refl

value_at_front : (p : Parts) (rest : List ℕ) → take (length p.value) (behind_key p rest) ≡ p.value
unfolding behind_key
value_at_front p rest = take_at p.value (to_be_bytes w32 (crc32c (content p)) ++ rest) (length p.value) refl

ap_fits : {a b : List ℕ} → a ≡ b → crc32c a < 2 ^ 32 → crc32c b < 2 ^ 32
ap_fits same = subst (λ (l : List ℕ). crc32c l < 2 ^ 32) same

-- the parts are where they were written
pub parts_are : (p : Parts) (rest : List ℕ) → Fits p → parts_at (record_bytes p ++ rest) ≡ p
parts_are p rest fits =
    let back = behind_head p rest in
    let bytes = head p ++ back in
    let key_place : drop 28 bytes ≡ back = from_28 p back in
    let value_place : drop (28 + key_length bytes) bytes ≡ behind_key p rest =
    ap (λ (k : ℕ). drop (28 + k) bytes) (key_length_is p back)
    ∙ sym (drop-drop (length p.key) 28 bytes)
    ∙ ap (drop (length p.key)) key_place
    ∙ past_key p rest in
    ap parts_at (split p rest)
    ∙ parts_same (parts_at bytes) p
    (ap (λ (k : ℕ). take k (drop 28 bytes)) (key_length_is p back) ∙ ap (take (length p.key)) key_place ∙ at_front p rest)
    (flags_is p back fits.flags)
    (cas_is p back fits.cas)
    (version_is p back fits.version)
    (ap (λ (v : ℕ). take v (drop (28 + key_length bytes) bytes)) (value_length_is p back fits.value) ∙ ap (take (length p.value)) value_place ∙ value_at_front p rest)

begun : (p : Parts) (l : List ℕ) → is_end (head p ++ l) ≡ false
unfolding head
begun p l = refl

magic : (p : Parts) (l : List ℕ) → agrees_with_magic (head p ++ l) ≡ true
unfolding head
magic p l = rw (or_right (nat_le (length (head p ++ l)) 0) true refl, or_right (nat_le (length (head p ++ l)) 1) true refl, or_right (nat_le (length (head p ++ l)) 2) true refl) refl

place_is : (p : Parts) (rest : List ℕ) → Fits p → checksum_offset (record_bytes p ++ rest) ≡ 28 + length p.key + length p.value
place_is p rest fits =
    let back = behind_head p rest in
    ap checksum_offset (split p rest)
    ∙ ap (λ (k : ℕ). 28 + k + value_length (head p ++ back)) (key_length_is p back)
    ∙ ap (λ (v : ℕ). 28 + length p.key + v) (value_length_is p back fits.value)

-- what was written is read again, whatever follows
pub read_again : (p : Parts) (rest : List ℕ) → Fits p → IsBytes (record_bytes p ++ rest) → record_at_front (record_bytes p ++ rest) ≡ Ok p
read_again p rest fits each =
    let bytes = record_bytes p ++ rest in
    let place = checksum_offset bytes in
    let sum = to_be_bytes w32 (crc32c (content p)) in
    let is : place ≡ 28 + length p.key + length p.value = place_is p rest fits in
    let content_is : length (content p) ≡ place = content_length p ∙ sym is in
    let front : take place bytes ≡ content p = ap (take place) (from_checksum p rest) ∙ take_at (content p) (sum ++ rest) place content_is in
    let back : drop place bytes ≡ sum ++ rest = ap (drop place) (from_checksum p rest) ∙ drop_at (content p) (sum ++ rest) place content_is in
    let small : crc32c (content p) < 2 ^ 32 = ap_fits front (crc32c_fits (take place bytes) (in_front place bytes each)) in
    let found : number_at w32 place bytes ≡ crc32c (content p) = ap (λ (l : List ℕ). from_be_bytes w32 (take 4 l)) back ∙ from_be_bytes-to_be_bytes_4 (crc32c (content p)) small in
    let long : length bytes ≡ record_length p + length rest = length-append (record_bytes p) rest ∙ ap (λ (n : ℕ). n + length rest) (record_bytes_length p) in
    let key : key_length bytes ≡ length p.key = ap key_length (split p rest) ∙ key_length_is p (behind_head p rest) in
    all_pass bytes
    (ap is_end (split p rest) ∙ begun p (behind_head p rest))
    (ap agrees_with_magic (split p rest) ∙ magic p (behind_head p rest))
    (le-ltb (length bytes) 32 (omega arith))
    (good_key bytes (omega (arith, fits.key.0)) (omega (arith, fits.key.1)))
    (le-ltb (length bytes) (place + 4) (omega arith))
    (eq-eqb (number_at w32 place bytes) (crc32c (take place bytes)) (found ∙ ap crc32c (sym front)))
    ∙ ap Ok (parts_are p rest fits)

-- no record begins another
pub no_prefix : (p q : Parts) (x y : List ℕ) → Fits p → Fits q → record_bytes p ++ x ≡ record_bytes q ++ y → (p ≡ q) × (x ≡ y)
no_prefix p q x y first second same =
    let alike : p ≡ q = sym (parts_are p x first) ∙ ap parts_at same ∙ parts_are q y second in
    let shared : record_bytes p ++ x ≡ record_bytes p ++ y = same ∙ ap (λ (r : Parts). record_bytes r ++ y) (sym alike) in
    (alike, sym (drop_at (record_bytes p) x (record_length p) (record_bytes_length p)) ∙ ap (drop (record_length p)) shared ∙ drop_at (record_bytes p) y (record_length p) (record_bytes_length p))
