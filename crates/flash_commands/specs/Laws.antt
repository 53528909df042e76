-- What the commands of bytes are with more bytes after them, and how a reader comes by them.
use Rattle.std.specs.Prelude.{◌≡◌, ℕ, ◌+◌, ◌-◌, ◌<◌, ◌≤◌, List, [], ◌∷◌, ◌++◌, length, drop}
use Rattle.flash_reply.specs.declared.command.Command.{Command}
use Rattle.flash_commands.specs.Parts.{Asked, Read, Feed, Takes, Rest, Block}
use Rattle.flash_commands.specs.declared.place.Place.{Place}
use Rattle.flash_commands.specs.declared.place.Place.TheVariants.{InLine, AtQuit, TooLong}
use Rattle.flash_commands.specs.Meanings.{meaning_of}
use Rattle.flash_commands.specs.Commands.{line_limit, cut_within, front_of, with_asked, read_from, commands_of}
use Rattle.flash_commands.specs.Reading.{Reader, HasRead}

-- what is read of more bytes after those that were read
abbrev pub read_on : ℕ → Read → List ℕ → Read
read_on item_max read more =
    with_asked read.asked (read_from item_max line_limit read.skip read.place (read.rest ++ more))

-- the commands of more bytes go on after those of the first ones
abbrev pub MoreBytesGoOn : Type 0
MoreBytesGoOn = (item_max : ℕ) (bytes more : List ℕ)
    → commands_of item_max (bytes ++ more) ≡ read_on item_max (commands_of item_max bytes) more

-- pieces, joined
abbrev pub joined : List (List ℕ) → List ℕ
joined [] = []
joined (piece ∷ pieces) = piece ++ joined pieces

-- what is read of pieces that come one after the other
abbrev pub read_pieces : ℕ → Read → List (List ℕ) → Read
read_pieces item_max read [] = read
read_pieces item_max read (piece ∷ pieces) = read_pieces item_max (read_on item_max read piece) pieces

-- however the bytes are cut, their commands are the same
abbrev pub CutsDontMatter : Type 0
CutsDontMatter = (item_max : ℕ) (pieces : List (List ℕ))
    → read_pieces item_max (commands_of item_max []) pieces ≡ commands_of item_max (joined pieces)

-- no byte is read after `quit` or too long a line
abbrev pub IsEnd : Place → Type 0
IsEnd AtQuit = Unit {0}
IsEnd TooLong = Unit {0}
IsEnd _ = ⊥

-- the same is asked, and the end is the same
pub record EndsAlike (short long : Read) : Type 0 where
  pub asked : long.asked ≡ short.asked
  pub place : long.place ≡ short.place

-- more bytes after an end change nothing
abbrev pub AnEndStays : Type 0
AnEndStays = (item_max : ℕ) (bytes more : List ℕ) → IsEnd (commands_of item_max bytes).place
    → EndsAlike (commands_of item_max bytes) (commands_of item_max (bytes ++ more))

-- a reader that gets more bytes has read of the longer ones
abbrev pub AReaderIsFed : Type 0
AReaderIsFed = (item_max : ℕ) (bytes more : List ℕ) (given : List Asked) (reader : Reader)
    → HasRead item_max bytes given reader
    → HasRead item_max (bytes ++ more) given (record reader { unread = reader.unread ++ more })

-- bytes that are skipped are passed over as they come
abbrev pub AReaderSkips : Type 0
AReaderSkips = (item_max n : ℕ) (bytes : List ℕ) (given : List Asked) (reader : Reader) → n ≤ reader.skip
    → n ≤ length reader.unread → HasRead item_max bytes given reader
    → HasRead item_max bytes given (record reader { skip = reader.skip - n; unread = drop n reader.unread })

-- a reader gives what its front asks, and skips its bytes
abbrev pub AReaderTakesItsFront : Type 0
AReaderTakesItsFront = (item_max n : ℕ) (bytes : List ℕ) (given asked : List Asked) (next : Place) (reader : Reader)
    → reader.skip ≡ 0 → front_of item_max line_limit reader.place reader.unread ≡ Takes asked n next
    → HasRead item_max bytes given reader
    → HasRead item_max bytes (given ++ asked) (record { skip = n; place = next; unread = reader.unread })

-- where a reader needs more bytes, it has given all
abbrev pub ARestIsAll : Type 0
ARestIsAll = (item_max : ℕ) (bytes : List ℕ) (given : List Asked) (reader : Reader) → reader.skip ≡ 0
    → front_of item_max line_limit reader.place reader.unread ≡ Rest → HasRead item_max bytes given reader
    → (commands_of item_max bytes).asked ≡ given

-- each block that a line of either protocol announces has at most as many bytes as a value may have
abbrev pub BlocksAreWithin : Type 0
BlocksAreWithin =
    (item_max : ℕ) (line : List ℕ) (command : Command) (size : ℕ) → meaning_of item_max line ≡ Block command size
    → size ≤ item_max

-- where more bytes are needed, there are fewer than a line and the longest block may have; but for an end
abbrev pub ARestIsShort : Type 0
ARestIsShort = (item_max : ℕ) (place : Place) (bytes : List ℕ) → (IsEnd place → ⊥)
    → front_of item_max line_limit place bytes ≡ Rest → length bytes < line_limit + item_max + 2

-- after a whole line whose block isn't, more bytes are needed until the block and its end are there: the line needn't be
-- read again before
abbrev pub ABlockIsAwaited : Type 0
ABlockIsAwaited = (item_max size : ℕ) (bytes more line behind : List ℕ) (command : Command)
    → cut_within line_limit bytes ≡ Feed line behind → meaning_of item_max line ≡ Block command size
    → length (behind ++ more) < size + 2 → front_of item_max line_limit InLine (bytes ++ more) ≡ Rest

-- a front has a byte at least, and is there only where there is a byte
abbrev pub EachFrontHasAByte : Type 0
EachFrontHasAByte = (item_max n : ℕ) (place next : Place) (bytes : List ℕ) (asked : List Asked)
    → front_of item_max line_limit place bytes ≡ Takes asked n next → (1 ≤ n) × (1 ≤ length bytes)
