-- What a reader has, and what its calls make of it.
use Rattle.std.specs.Prelude.{ℕ, ◌+◌, ◌-◌, min, List, ◌++◌, length, drop}
use Rattle.flash_commands.specs.declared.place.Place.{Place}
use Rattle.flash_commands.specs.Reading.{Reader}

-- a reader, and how many bytes a value may have
pub record Reads : Type 0 where
  pub item_max : ℕ
  pub reader : Reader

-- how many bytes more a reader takes: a line, the longest block and its end are unread at most
abbrev pub room_of : Reads → ℕ
room_of reads = reads.item_max + 65538 - length reads.reader.unread

-- the bytes that are skipped are passed over, as far as they are there
abbrev pub passed_over : Reader → Reader
passed_over reader =
    let n = min reader.skip (length reader.unread) in
    record reader { skip = reader.skip - n; unread = drop n reader.unread }

-- a reader that gets more bytes
abbrev pub fed : Reader → List ℕ → Reader
fed reader more = passed_over (record reader { unread = reader.unread ++ more })

-- a reader that takes a front of so many bytes
abbrev pub taken : Reader → ℕ → Place → Reader
taken reader n next = passed_over (record { skip = n; place = next; unread = reader.unread })
