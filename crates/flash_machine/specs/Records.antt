-- Bytes that are a record, whole.
use Rattle.std.specs.Prelude.{ℕ, List, length, Bool, false, ◌&&◌, nat_eq, Option, None, Some, Result, Ok, Err, if◌then◌else◌}
use Rattle.std.specs.Str.{bytes_eq}
use Rattle.flash_record.specs.declared.not_record.NotRecord.{NotRecord}
use Rattle.flash_record.specs.Record.{Parts, record_length}
use Rattle.flash_record.specs.Reading.{record_at_front}

abbrev pub parts_if_whole : List ℕ → Result Parts NotRecord → Option Parts
parts_if_whole bytes (Ok parts) = if nat_eq (length bytes) (record_length parts) then Some parts else None
parts_if_whole bytes (Err fault) = None

-- the parts of the record that these bytes are, all of them, if they are one
abbrev pub whole_record : List ℕ → Option Parts
whole_record bytes = parts_if_whole bytes (record_at_front bytes)

-- whether a record is of this key, CAS number and version
abbrev pub is_of : List ℕ → ℕ → ℕ → Option Parts → Bool
is_of key cas version None = false
is_of key cas version (Some parts) =
    bytes_eq parts.key key && nat_eq parts.cas cas && nat_eq parts.version version

-- whether a record has these flags and this value
abbrev pub has_content : ℕ → List ℕ → Option Parts → Bool
has_content flags value None = false
has_content flags value (Some parts) = nat_eq parts.flags flags && bytes_eq parts.value value
