-- What any list of calls keeps: no ticket is closed twice.
use Rattle.std.specs.Prelude.{◌≡◌, ℕ, ◌+◌, ◌≤◌, List, [], ◌∷◌, nat_eq, IsTrue, IsSome, IsSomeAnd, Option, None, Some, if◌then◌else◌}
use Rattle.flash_io.specs.States.{is_queued, is_flying, is_over}
use Rattle.flash_io.specs.Row.{Row}
use Rattle.flash_io.specs.TicketTable.{TicketTable, row_of}
use Rattle.flash_io.specs.Calls.{Call, submits, flies, loses, ends, takes_spare, collects, forgets, after}

-- the call may be made
abbrev pub Allowed : TicketTable → Call → Type 0
Allowed t (submits slot row) = (row_of t slot ≡ None) × IsTrue (is_queued row.state)
Allowed t (flies slot reader) = IsSomeAnd (row_of t slot) (λ row. IsTrue (is_queued row.state))
Allowed t (loses slot) = IsSomeAnd (row_of t slot) (λ row. IsTrue (is_queued row.state))
Allowed t (ends slot state) = IsSomeAnd (row_of t slot) (λ row. IsTrue (is_flying row.state)) × IsTrue (is_over state)
Allowed t (takes_spare slot) = Unit {0}
Allowed t (collects slot) = Unit {0}
Allowed t (forgets slot) = IsSome (row_of t slot)

-- each of the calls may be made when it comes
abbrev pub AllAllowed : TicketTable → List Call → Type 0
AllAllowed t [] = Unit {0}
AllAllowed t (call ∷ rest) = Allowed t call × AllAllowed (after call t) rest

-- one where the call puts a ticket into the slot
abbrev pub submitted_by : ℕ → Call → ℕ
submitted_by slot (submits other row) = if nat_eq other slot then 1 else 0
submitted_by slot (flies other reader) = 0
submitted_by slot (loses other) = 0
submitted_by slot (ends other state) = 0
submitted_by slot (takes_spare other) = 0
submitted_by slot (collects other) = 0
submitted_by slot (forgets other) = 0

-- one where the call closes the ticket in the slot, or ends the job of one that was forgotten
abbrev pub closed_by : ℕ → Call → ℕ
closed_by slot (submits other row) = 0
closed_by slot (flies other reader) = 0
closed_by slot (loses other) = if nat_eq other slot then 1 else 0
closed_by slot (ends other state) = if nat_eq other slot then 1 else 0
closed_by slot (takes_spare other) = 0
closed_by slot (collects other) = 0
closed_by slot (forgets other) = 0

-- how many tickets the calls put into the slot
abbrev pub submissions : ℕ → List Call → ℕ
submissions slot [] = 0
submissions slot (call ∷ rest) = submitted_by slot call + submissions slot rest

-- how often the calls close the ticket in the slot
abbrev pub closings : ℕ → List Call → ℕ
closings slot [] = 0
closings slot (call ∷ rest) = closed_by slot call + closings slot rest

-- one where a ticket is there that isn't closed yet
abbrev pub unclosed : Option Row → ℕ
unclosed None = 0
unclosed (Some row) = if is_over row.state then 0 else 1

-- the tickets in the slot are closed no more often than tickets were put into it, the one before included
abbrev pub ClosesAtMost : TicketTable → ℕ → List Call → Type 0
ClosesAtMost t slot calls = closings slot calls ≤ submissions slot calls + unclosed (row_of t slot)
