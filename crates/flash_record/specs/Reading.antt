-- What is read at the front of a list of bytes: the parts of a record, or the first reason why there is none.
use Rattle.std.specs.Prelude.{◌≡◌, ℕ, ◌+◌, List, [], ◌∷◌, length, take, drop, slice_index, Bool, true, not, ◌&&◌, ◌||◌, nat_eq, nat_lt, nat_le, Result, Ok, Err, if◌then◌else◌}
use Rattle.std.specs.Int.{Width, w32, w64, byte_len, from_be_bytes}
use Rattle.flash_crc.specs.Crc32c.{crc32c}
use Rattle.flash_record.specs.declared.not_record.NotRecord.{NotRecord}
use Rattle.flash_record.specs.declared.not_record.NotRecord.TheVariants.{End, Magic, Short, Lengths, Sum}
use Rattle.flash_record.specs.declared.reading.Record.{Record}
use Rattle.flash_record.specs.Record.{Parts, Fits, record_bytes}

-- there are no bytes, or the first is 0
abbrev pub is_end : List ℕ → Bool
is_end [] = true
is_end (byte ∷ rest) = nat_eq byte 0

-- the byte at this place isn't there, or it is this one
abbrev pub agrees_at : List ℕ → ℕ → ℕ → Bool
agrees_at bytes place byte = nat_le (length bytes) place || nat_eq (slice_index bytes place) byte

-- each of the first three bytes, as far as they are there, is that of every record
abbrev pub agrees_with_magic : List ℕ → Bool
agrees_with_magic bytes = agrees_at bytes 0 0x46 && agrees_at bytes 1 0x52 && agrees_at bytes 2 0x01

-- the number that begins at this place, its highest byte first
abbrev pub number_at : Width → ℕ → List ℕ → ℕ
number_at width place bytes = from_be_bytes width (take (byte_len width) (drop place bytes))

-- the key's length, as its byte says
abbrev pub key_length : List ℕ → ℕ
key_length bytes = slice_index bytes 3

-- the value's length, as its field says
abbrev pub value_length : List ℕ → ℕ
value_length bytes = number_at w32 8 bytes

-- where the checksum begins
abbrev pub checksum_offset : List ℕ → ℕ
checksum_offset bytes = 28 + key_length bytes + value_length bytes

-- the parts that are at their places, by these lengths
abbrev pub parts_at : List ℕ → Parts
parts_at bytes = record {
  key = take (key_length bytes) (drop 28 bytes);
  flags = number_at w32 4 bytes;
  cas = number_at w64 12 bytes;
  version = number_at w64 20 bytes;
  value = take (value_length bytes) (drop (28 + key_length bytes) bytes);
}

-- the checksum is that of the bytes before it
abbrev pub has_checksum : List ℕ → Bool
has_checksum bytes = nat_eq (number_at w32 (checksum_offset bytes) bytes) (crc32c (take (checksum_offset bytes) bytes))

-- the parts of the record at the front, or the first of these faults
unfoldable pub record_at_front : List ℕ → Result Parts NotRecord
record_at_front bytes =
    if is_end bytes then Err End
    else (if not (agrees_with_magic bytes) then Err Magic
    else (if nat_lt (length bytes) 32 then Err Short
    else (if not (nat_le 1 (key_length bytes) && nat_le (key_length bytes) 250) then Err Lengths
    else (if nat_lt (length bytes) (checksum_offset bytes + 4) then Err Short
    else (if not (has_checksum bytes) then Err Sum
    else Ok (parts_at bytes))))))

-- the parts that a record lends
abbrev pub parts_of : Record → Parts
parts_of r = record { key = r.key.now; flags = r.flags; cas = r.cas; version = r.version; value = r.value.now }

-- what was answered is this
abbrev pub Gives : Result Record NotRecord → Result Parts NotRecord → Type 0
Gives (Ok r) expected = expected ≡ Ok (parts_of r)
Gives (Err e) expected = expected ≡ Err e

-- these bytes are the record of this key, CAS number and version, and of some flags and value
abbrev pub IsRecordOf : List ℕ → List ℕ → ℕ → ℕ → Type 0
IsRecordOf bytes key cas version =
    (p : Parts) × (Fits p) × (bytes ≡ record_bytes p) × (p.key ≡ key) × (p.cas ≡ cas) × (p.version ≡ version)
