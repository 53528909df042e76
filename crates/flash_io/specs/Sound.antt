-- What is so of all tickets at any time.
use Rattle.std.specs.Prelude.{◌≡◌, ◌≢◌, ℕ, IsTrue, IsSomeAnd, Some, if◌then◌else◌}
use Rattle.flash_names.specs.declared.place.Id.{Id}
use Rattle.flash_io.specs.declared.job.ReadJob.{ReadJob}
use Rattle.flash_io.specs.States.{is_open}
use Rattle.flash_io.specs.Answers.{IsFlyingAs}
use Rattle.flash_io.specs.Row.{Row}
use Rattle.flash_io.specs.Queue.{count_of}
use Rattle.flash_io.specs.Slots.{is_queued_row}
use Rattle.flash_io.specs.TicketTable.{TicketTable, row_of}

-- each queued ticket is in the queue once, and nothing else is
abbrev pub IsQueueOf : TicketTable → Type 0
IsQueueOf t = (slot : ℕ) → count_of slot t.queue ≡ (if is_queued_row (row_of t slot) then 1 else 0)

-- the slot has an open ticket with the id
pub record HasOpen (t : TicketTable) (id : Id) (slot : ℕ) : Type 0 where
  pub row : Row
  pub there : row_of t slot ≡ Some row
  pub opened : IsTrue (is_open row.state)
  pub named : row.id ≡ id

-- no two open tickets have one id
abbrev pub HaveOwnIds : TicketTable → Type 0
HaveOwnIds t = (id : Id) (slot other : ℕ) → HasOpen t id slot → HasOpen t id other → slot ≡ other

-- the queue is that of the queued tickets, and open tickets have ids of their own
pub record IsSound (t : TicketTable) : Type 0 where
  pub queue : IsQueueOf t
  pub ids : HaveOwnIds t

-- no open ticket has the id
abbrev pub HasNoOpen : TicketTable → Id → Type 0
HasNoOpen t id = (slot : ℕ) → HasOpen t id slot → ⊥

-- every open ticket stays open
abbrev pub KeepsOpen : TicketTable → TicketTable → Type 0
KeepsOpen old new = (id : Id) (slot : ℕ) → HasOpen old id slot → HasOpen new id slot

-- no ticket becomes open
abbrev pub OpensNone : TicketTable → TicketTable → Type 0
OpensNone old new = (id : Id) (slot : ℕ) → HasOpen new id slot → HasOpen old id slot

-- no ticket of another id becomes open
abbrev pub OpensOnly : Id → TicketTable → TicketTable → Type 0
OpensOnly id old new = (other : Id) (slot : ℕ) → other ≢ id → HasOpen new other slot → HasOpen old other slot

-- every open ticket of another id stays open
abbrev pub KeepsOthers : Id → TicketTable → TicketTable → Type 0
KeepsOthers id old new = (other : Id) (slot : ℕ) → other ≢ id → HasOpen old other slot → HasOpen new other slot

-- the ticket in the job's slot is flying, and has the job's id and place
abbrev pub IsOut : TicketTable → ReadJob → Type 0
IsOut t job = IsSomeAnd (row_of t job.slot) (IsFlyingAs job)
