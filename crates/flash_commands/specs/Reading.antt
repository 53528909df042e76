-- A reader that keeps the bytes that it hasn't read.
use Rattle.std.specs.Prelude.{◌≡◌, ℕ, List}
use Rattle.flash_commands.specs.Parts.{Asked, Read}
use Rattle.flash_commands.specs.declared.place.Place.{Place}
use Rattle.flash_commands.specs.Commands.{line_limit, with_asked, read_from, commands_of}

-- how many of the unread bytes are skipped, the place, and the unread bytes
pub record Reader : Type 0 where
  pub skip : ℕ
  pub place : Place
  pub unread : List ℕ

-- what the reader has yet to read of its bytes
abbrev pub left_of : ℕ → Reader → Read
left_of item_max reader = read_from item_max line_limit reader.skip reader.place reader.unread

-- of these bytes the reader has given what was asked so far
abbrev pub HasRead : ℕ → List ℕ → List Asked → Reader → Type 0
HasRead item_max bytes given reader = commands_of item_max bytes ≡ with_asked given (left_of item_max reader)
