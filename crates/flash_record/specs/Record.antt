-- The bytes of a record on flash.
use Rattle.std.specs.Prelude.{ℕ, ◌+◌, ◌^◌, ◌<◌, ◌≤◌, List, ◌∷◌, ◌++◌, length}
use Rattle.std.specs.Int.{to_be_bytes, w32, w64}
use Rattle.flash_crc.specs.Crc32c.{crc32c}

-- what a record is of
pub record Parts : Type 0 where
  pub key : List ℕ
  pub flags : ℕ
  pub cas : ℕ
  pub version : ℕ
  pub value : List ℕ

-- these parts
abbrev pub parts_with : List ℕ → ℕ → ℕ → ℕ → List ℕ → Parts
parts_with key flags cas version value =
    record { key = key; flags = flags; cas = cas; version = version; value = value }

-- which parts have a record: a key of 1 to 250 bytes, a value of fewer than 2^32, and numbers of their widths
pub record Fits (p : Parts) : Type 0 where
  pub key : (1 ≤ length p.key) × (length p.key ≤ 250)
  pub flags : p.flags < 2 ^ 32
  pub cas : p.cas < 2 ^ 64
  pub version : p.version < 2 ^ 64
  pub value : length p.value < 2 ^ 32

-- how many bytes it has
abbrev pub record_length : Parts → ℕ
record_length p = 32 + length p.key + length p.value

-- all of it but its checksum: 46 52 01, the key's length, the flags, the value's length, the CAS number and
-- the page's version, each number with its highest byte first, then the key and the value
unfoldable pub content : Parts → List ℕ
content p =
    (0x46 ∷ 0x52 ∷ 0x01 ∷ length p.key ∷ to_be_bytes w32 p.flags)
    ++ (to_be_bytes w32 (length p.value)
    ++ (to_be_bytes w64 p.cas ++ (to_be_bytes w64 p.version ++ (p.key ++ p.value))))

-- the record: its content, and after it the content's CRC-32C, with the highest byte first
unfoldable pub record_bytes : Parts → List ℕ
record_bytes p = content p ++ to_be_bytes w32 (crc32c (content p))
