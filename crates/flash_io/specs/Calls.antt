-- When each call may be made, and what is after it.
use Rattle.std.specs.Prelude.{ℕ, [], ◌∷◌, ◌++◌, Option, Some, if◌then◌else◌}
use Rattle.std.specs.FinMap as map
use Rattle.flash_entry.specs.declared.found.Closed.TheVariants.{Lost}
use Rattle.flash_entry.specs.declared.found.Cause.TheVariants.{Ended}
use Rattle.flash_io.specs.declared.job.Ticket.{Ticket}
use Rattle.flash_io.specs.declared.row.State.{State}
use Rattle.flash_io.specs.declared.row.State.TheVariants.{Done}
use Rattle.flash_io.specs.Row.{Row, in_flight, closed, without_spare}
use Rattle.flash_io.specs.Slots.{changed, ended, dropped, has_spare, is_over_row}
use Rattle.flash_io.specs.Queue.{without}
use Rattle.flash_io.specs.TicketTable.{TicketTable, row_of}
use Rattle.flash_io.specs.Sound.{HasOpen}

-- the calls that change the tickets, each with the slot of its ticket
pub data Call : Type 0 where
  submits : ℕ → Row → Call
  flies : ℕ → ℕ → Call
  loses : ℕ → Call
  ends : ℕ → State → Call
  takes_spare : ℕ → Call
  collects : ℕ → Call
  forgets : ℕ → Call

-- the ticket is open
abbrev pub IsOpenTicket : TicketTable → Ticket → Type 0
IsOpenTicket t ticket = HasOpen t ticket.id ticket.slot

-- the row in the slot is changed, and the queue is as it was
abbrev pub with_row : (Row → Option Row) → ℕ → TicketTable → TicketTable
with_row change slot t = record t { rows = changed change slot t.rows (row_of t slot) }

-- the row in the slot is changed, and the slot leaves the queue
abbrev pub unqueued : (Row → Option Row) → ℕ → TicketTable → TicketTable
unqueued change slot t = record { rows = changed change slot t.rows (row_of t slot); queue = without slot t.queue }

-- the tickets after the call
abbrev pub after : Call → TicketTable → TicketTable
after (submits slot row) t = record { rows = map.insert t.rows slot row; queue = t.queue ++ slot ∷ [] }
after (flies slot reader) t = unqueued (λ row. Some (in_flight reader row)) slot t
after (loses slot) t = unqueued (λ row. Some (closed (Done (Lost Ended)) row)) slot t
after (ends slot state) t = with_row (ended state) slot t
after (takes_spare slot) t = if has_spare (row_of t slot) then with_row (λ row. Some (without_spare row)) slot t else t
after (collects slot) t = if is_over_row (row_of t slot) then record t { rows = map.remove t.rows slot } else t
after (forgets slot) t = unqueued dropped slot t
