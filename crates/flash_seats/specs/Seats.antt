-- A session of a script as a play has it.
use Rattle.std.specs.Prelude.{◌≡◌, ℕ, false, List, [], ◌++◌, drop, Option, None, Some}
use Rattle.std.specs.List.{AllByRecursion}
use Rattle.flash_entry.specs.declared.entry.Entry.{Entry}
use Rattle.flash_calls.specs.Store.{Store}
use Rattle.flash_session.specs.Pieces.{HoldsAPiece}
use Rattle.flash_session.specs.Stands.{Stands}
use Rattle.flash_session.specs.Talks.{ends_command}
use Rattle.flash_play.specs.Playing.{Seat, StoreState}
use Rattle.flash_seats.specs.declared.seat.Seat as code

-- the entries that a journal tells
abbrev pub entries_of : Option (List Entry) → List Entry
entries_of None = []
entries_of (Some entries) = entries

-- a store
abbrev pub kept_of : Store → StoreState
kept_of s = record { journal = entries_of s.told; cache = s.cache; desk = s.desk }

-- the bytes that a session was given and wasn't fed yet
abbrev pub rest_of : code.Seat → List ℕ
rest_of code = drop code.start code.given.items

-- the code's session, of this number, whose values have at most this size, is the play's: it was fed the first of the
-- bytes given, its steps were told the same, its replies were taken, what it has to send is the next piece of them, and no
-- answer is owed
pub record IsSeat (item_max number : ℕ) (seat : Seat) (code : code.Seat) : Type 0 where
  pub fed : List ℕ
  pub given : seat.given ≡ fed ++ rest_of code
  pub stands : Stands fed seat.told seat.replies code.session
  pub piece : HoldsAPiece fed seat.told seat.replies code.session
  pub each : AllByRecursion (λ answer. ends_command answer ≡ false) seat.told
  pub replies : code.replies.items ≡ seat.replies
  pub closed : code.closed ≡ seat.closed
  pub size : code.session.reads.item_max ≡ item_max
  pub pass : code.session.pass ≡ number
  pub free : code.session.owed ≡ false
