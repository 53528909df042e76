-- What flash holds, as far as a journal says it.
use Rattle.std.specs.Prelude.{◌≡◌, ℕ, ◌+◌, ◌-◌, ◌<◌, List, length, Option, None, Some, slice_get, if◌then◌else◌}
use Rattle.flash_names.specs.declared.place.Place.{Place}
use Rattle.flash_entry.specs.declared.entry.Entry.{Entry}
use Rattle.flash_entry.specs.declared.entry.Entry.TheVariants as entries
use Rattle.flash_machine.specs.Places.{has_byte}
use Rattle.flash_machine.specs.ReadOff.{read_off}

-- a byte after a write of the place has ended: a failed write leaves it as it was
abbrev pub byte_after_write : ℕ → ℕ → Place → Option (List ℕ) → Option ℕ → Option ℕ
byte_after_write page offset place None byte = byte
byte_after_write page offset place (Some bytes) byte =
    if has_byte place page offset then slice_get bytes (offset - place.offset) else byte

abbrev pub byte_step : ℕ → ℕ → Option ℕ → Entry → Option ℕ
byte_step page offset byte (entries.WriteBegan place) = if has_byte place page offset then None else byte
byte_step page offset byte (entries.WriteEnded place outcome) = byte_after_write page offset place outcome byte
byte_step page offset byte _ = byte

-- a byte of a page, where it is known: unknown at first and from a write's begin, known from its good end
abbrev pub written : ℕ → ℕ → List Entry → Option ℕ
written page offset journal = read_off (byte_step page offset) None journal

-- these bytes are known to be at the place
pub record IsWritten (journal : List Entry) (place : Place) (bytes : List ℕ) : Type 0 where
  pub long : length bytes ≡ place.length
  pub same : (i : ℕ) → i < place.length → written place.label.page (place.offset + i) journal ≡ slice_get bytes i
