-- Where a record is written.
use Rattle.std.specs.Prelude.{ℕ, ◌^◌, length, Bool, ◌&&◌, nat_lt, nat_le}
use Rattle.flash_record.specs.Record.{Parts, record_length}

-- whether the record is in so many bytes and the value's length in its field
abbrev pub has_room : ℕ → Parts → Bool
has_room room p = nat_le (record_length p) room && nat_lt (length p.value) (2 ^ 32)
