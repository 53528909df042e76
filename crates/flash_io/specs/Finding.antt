-- What the search of the queue by an id finds.
use Rattle.std.specs.Prelude.{ℕ, IsTrue, IsSomeAnd, Option, None, Some}
use Rattle.flash_names.specs.declared.place.Id.{Id}
use Rattle.flash_io.specs.States.{same_id, is_queued}
use Rattle.flash_io.specs.Row.{Row}
use Rattle.flash_io.specs.TicketTable.{TicketTable, row_of}

-- the row is that of a queued ticket with the id
pub record IsQueuedAs (id : Id) (row : Row) : Type 0 where
  pub queued : IsTrue (is_queued row.state)
  pub named : IsTrue (same_id row.id id)

-- no queued ticket has the id
abbrev pub HasNoQueued : TicketTable → Id → Type 0
HasNoQueued t id = (slot : ℕ) → IsSomeAnd (row_of t slot) (IsQueuedAs id) → ⊥

-- a slot that is found has a queued ticket with the id, and where none is found there is no such ticket
abbrev pub IsFinding : TicketTable → Id → Option ℕ → Type 0
IsFinding t id None = HasNoQueued t id
IsFinding t id (Some slot) = IsSomeAnd (row_of t slot) (IsQueuedAs id)
