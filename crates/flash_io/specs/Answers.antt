-- What a ticket's owner and its reader are told.
use Rattle.std.specs.Prelude.{◌≡◌, ℕ, List, length, IsTrue, IsSomeAnd, MatchOption, Option, None}
use Rattle.flash_io.specs.declared.job.Asked.{Asked}
use Rattle.flash_io.specs.declared.job.ReadJob.{ReadJob}
use Rattle.flash_io.specs.declared.job.Ticket.{Ticket}
use Rattle.flash_io.specs.declared.job.Collected.{Collected}
use Rattle.flash_io.specs.declared.job.Collected.TheVariants.{NoMemory, Queued as StillQueued, Flying as StillFlying, Done as Told}
use Rattle.flash_io.specs.declared.row.State.{State}
use Rattle.flash_io.specs.declared.row.State.TheVariants.{Queued, Flying, Done, GivenUp}
use Rattle.flash_io.specs.States.{is_flying}
use Rattle.flash_io.specs.Row.{Row}

-- what `collect` answers for a ticket in this state
abbrev pub answer_of : Ticket → State → Collected
answer_of ticket Queued = StillQueued ticket
answer_of ticket (Flying reader awaited) = StillFlying ticket
answer_of ticket (Done closed) = Told closed
answer_of ticket GivenUp = NoMemory

-- this is what the row was submitted with
pub record IsAsked (asked : Asked) (row : Row) : Type 0 where
  pub key : asked.key.now ≡ row.key
  pub place : asked.place ≡ row.place
  pub head : asked.head ≡ row.head
  pub recache : asked.recache ≡ row.recache

-- this is what the row was submitted with, and there is nothing where there is no row
abbrev pub IsAskedOf : Option Row → Option Asked → Type 0
IsAskedOf row asked = MatchOption asked (row ≡ None) (λ some. IsSomeAnd row (IsAsked some))

-- there are as many bytes as the value of this row has
abbrev pub IsCopyOf : Option Row → List ℕ → Type 0
IsCopyOf row bytes = IsSomeAnd row (λ some. length bytes ≡ some.head.size)

-- the job is that of this row, and its bytes have the place's length
pub record IsJob (job : ReadJob) (row : Row) : Type 0 where
  pub id : job.id ≡ row.id
  pub place : job.place ≡ row.place
  pub bytes : length job.bytes ≡ row.place.length

-- the row is that of a flying ticket with the job's id and place
pub record IsFlyingAs (job : ReadJob) (row : Row) : Type 0 where
  pub flying : IsTrue (is_flying row.state)
  pub id : row.id ≡ job.id
  pub place : row.place ≡ job.place
