-- The tickets by their slots.
use Rattle.std.specs.Prelude.{◌≡◌, ℕ, Bool, false, ◌&&◌, Option, None, Some, if◌then◌else◌}
use Rattle.std.specs.Ordering.{nat_cmp}
use Rattle.std.specs.FinMap as map
use Rattle.slab.specs.Slab.{Slab, entries, get, Updates}
use Rattle.flash_names.specs.declared.place.Id.{Id}
use Rattle.flash_io.specs.declared.row.State.{State}
use Rattle.flash_io.specs.States.{same_id, is_queued, is_flying, is_forgotten, is_over}
use Rattle.flash_io.specs.Row.{Row, closed, forgotten}

-- what is kept of each ticket, by its slot
abbrev pub Rows : Type 0
Rows = map.FinMap nat_cmp Row

-- those of a slab
abbrev pub rows_of : Slab Row → Rows
rows_of slab = map.from_entries (entries slab)

-- the slot has this, or is free
abbrev pub put : ℕ → Option Row → Rows → Rows
put slot None rows = map.remove rows slot
put slot (Some row) rows = map.insert rows slot row

-- what is kept in the slot, if anything, is changed so
abbrev pub changed : (Row → Option Row) → ℕ → Rows → Option Row → Rows
changed change slot rows None = rows
changed change slot rows (Some row) = put slot (change row) rows

-- the slab has something in the slot, and it is changed so; every other slot keeps what it has
abbrev pub Changes : (Row → Option Row) → ℕ → Slab Row → Slab Row → Type 0
Changes change slot old new = (row : Row) → get old slot ≡ Some row → Updates old new slot (change row)

-- whether this is kept of a ticket with the id
abbrev pub has_id : Id → Option Row → Bool
has_id id None = false
has_id id (Some row) = same_id row.id id

-- whether this is kept of a queued ticket
abbrev pub is_queued_row : Option Row → Bool
is_queued_row None = false
is_queued_row (Some row) = is_queued row.state

-- whether this is kept of a ticket whose read has ended
abbrev pub is_over_row : Option Row → Bool
is_over_row None = false
is_over_row (Some row) = is_over row.state

-- whether this is kept of a flying ticket, and the memory for the second copy is there
abbrev pub has_spare : Option Row → Bool
has_spare None = false
has_spare (Some row) = is_flying row.state && row.spare

-- the row, where it is that of a flying ticket with the id
abbrev pub if_flying : Id → Option Row → Option Row
if_flying id None = None
if_flying id (Some row) = if is_flying row.state && same_id row.id id then Some row else None

-- once its job has ended in this state; where the ticket was forgotten, its slot is free then
abbrev pub ended : State → Row → Option Row
ended state row = if is_forgotten row.state then None else Some (closed state row)

-- once its ticket is forgotten: its slot is free, unless a reader has its job
abbrev pub dropped : Row → Option Row
dropped row = if is_flying row.state then Some (forgotten row) else None
