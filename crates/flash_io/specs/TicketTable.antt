-- All tickets, and the queue.
use Rattle.std.specs.Prelude.{ℕ, [], List, refl, Option, None, Some, option_map, option_and_then, find, slice_get}
use Rattle.std.specs.Coded.{Coded, code_by, coded×, coded_ℕ, coded_list}
use Rattle.std.specs.FinMap as map
use Rattle.slab.specs.Slab.{Slab}
use Rattle.flash_names.specs.declared.place.Id.{Id}
use Rattle.flash_io.specs.contracts.row.TicketRow as kept
use Rattle.flash_io.specs.Row.{Row}
use Rattle.flash_io.specs.Slots.{Rows, rows_of, has_id, if_flying}

-- the tickets by their slots, and the slots of the queued ones, the first one first
pub record TicketTable : Type 0 where
  pub rows : Rows
  pub queue : List ℕ

-- a table is stored as the pair of its parts
abbrev pub table_code : Coded TicketTable
table_code =
    code_by
    (Rows × List ℕ)
    (coded× (map.code coded_ℕ kept.the_row.coded) (coded_list coded_ℕ))
    (λ t. (t.rows, t.queue))
    (λ p. record { rows = p.0; queue = p.1 })
    (λ _. refl)

-- the tickets of a slab, with this queue
abbrev pub table_of : Slab Row → List ℕ → TicketTable
table_of slab queue = record { rows = rows_of slab; queue = queue }

-- no tickets
abbrev pub no_tickets : TicketTable
no_tickets = record { rows = map.empty; queue = [] }

-- what is kept in the slot, if anything
abbrev pub row_of : TicketTable → ℕ → Option Row
row_of t slot = map.get t.rows slot

-- the slot of the first queued ticket with the id
abbrev pub queued_with : TicketTable → Id → Option ℕ
queued_with t id = find (λ slot. has_id id (row_of t slot)) t.queue

-- the id of the queue's first ticket
abbrev pub next_id : TicketTable → Option Id
next_id t = option_and_then (λ slot. option_map (λ row. row.id) (row_of t slot)) (slice_get t.queue 0)

-- what was submitted for the queued ticket of the id or, with a slot, for the flying one of that id in it
abbrev pub asked_row : TicketTable → Id → Option ℕ → Option Row
asked_row t id None = option_and_then (λ slot. row_of t slot) (queued_with t id)
asked_row t id (Some slot) = if_flying id (row_of t slot)
