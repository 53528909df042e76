-- What the cursor over a line's words shows, and that the count of its words fits.
use Rattle.std.specs.Prelude.{◌+◌, ◌<◌, ◌^◌, length}
use Rattle.std.specs.Option.{option_map}
use Rattle.flash_names.specs.Words.{words_if}
use Rattle.flash_entry.specs.declared.cursor.Cursor.TheInside.{Inside}
use Rattle.flash_entry.specs.Readings.{Left}

-- the words that are left, and the place of the last one that was read
abbrev pub left_of : Inside → Left
left_of cursor = record { words = words_if (option_map (λ r. r.now) cursor.rest); place = cursor.place }

-- each word that is left has a place below 2^64
abbrev pub IsCounted : Inside → Type 0
IsCounted cursor = cursor.place + length (words_if (option_map (λ r. r.now) cursor.rest)) < 2 ^ 64
