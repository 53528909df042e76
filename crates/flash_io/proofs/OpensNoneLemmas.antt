-- A call that submits no ticket opens none.
use Rattle.std.proofs.Common.{◌≡◌, ℕ, Bool, true, false, cond, eqb, List, Option, None, Some, sym, ap, ◌∙◌, refl, subst}
use Rattle.std.specs.Prelude.{IsTrue, IsSome, IsSomeAnd}
use Rattle.std.specs.FinMap.{remove}
use borrow.Author.Tests.{eqb-true}
use Rattle.flash_entry.specs.declared.found.Closed.{Closed}
use Rattle.flash_io.specs.declared.row.State.{State}
use Rattle.flash_io.specs.declared.row.State.TheVariants.{Done}
use Rattle.flash_io.specs.States.{is_queued, is_forgotten, is_flying}
use Rattle.flash_io.specs.Row.{Row, in_flight, closed, without_spare}
use Rattle.flash_io.specs.Slots.{changed, ended, dropped, has_spare}
use Rattle.flash_io.specs.Queue.{without}
use Rattle.flash_io.specs.TicketTable.{TicketTable, row_of}
use Rattle.flash_io.specs.Sound.{HasOpen, OpensNone}
use Rattle.flash_io.specs.Calls.{flies, ends, forgets, after, with_row, unqueued}
use Rattle.flash_io.proofs.SoundLemmas.{Keeps, PutAt, at_slot, open_elsewhere, put_by, get-put}
use Rattle.flash_io.proofs.TableLemmas.{there, keeps_none, keeps_some, queued_open, ended_keeps, dropped_keeps}
use Rattle.flash_io.proofs.OpenLemmas.{some_row, spare_some}

-- what is put into the slot has the id of the ticket that was there, and is open only where that was
opens-put : (t new : TicketTable) (slot : ℕ) (row : Row) (o : Option Row) → PutAt t new slot o → row_of t slot ≡ Some row → Keeps row o → OpensNone t new
opens-put t new slot row o put was kept id q h =
    elim (eqb q slot) as (λ b. eqb q slot ≡ b → HasOpen t id q) [
      | true ↦ λ e.
          let same : q ≡ slot = eqb-true q slot e in
          let is : o ≡ Some h.row = sym (at_slot t new slot o put) ∙ ap (row_of new) (sym same) ∙ h.there in
          record { row = row; there = ap (row_of t) same ∙ was; opened = kept.opened h.row is h.opened; named = sym (kept.named h.row is) ∙ h.named }
      | false ↦ λ e. open_elsewhere t new slot o put id q e h
    ] refl

opens-changed : (change : Row → Option Row) (slot : ℕ) (t new : TicketTable) (queue : List ℕ) → new ≡ record { rows = changed change slot t.rows (row_of t slot); queue = queue } → (row : Row) → row_of t slot ≡ Some row → Keeps row (change row) → OpensNone t new
opens-changed change slot t new queue is row was kept =
    subst (λ (n : TicketTable). OpensNone t n) (sym is)
    (opens-put t (record { rows = changed change slot t.rows (row_of t slot); queue = queue }) slot row (change row) (put_by change slot t row was queue) was kept)

pub opens-flies : (slot reader : ℕ) (t new : TicketTable) → new ≡ after (flies slot reader) t → IsSomeAnd (row_of t slot) (λ row. IsTrue (is_queued row.state)) → OpensNone t new
opens-flies slot reader t new is queued =
    let found = there (row_of t slot) (λ row. IsTrue (is_queued row.state)) queued in
    opens-changed (λ row. Some (in_flight reader row)) slot t new (without slot t.queue) is found.0 found.1 (keeps_some found.0 (in_flight reader found.0) refl (λ h. queued_open found.0.state found.2))

pub opens-closes : (how : Closed) (slot : ℕ) (t new : TicketTable) → new ≡ unqueued (λ row. Some (closed (Done how) row)) slot t → IsSomeAnd (row_of t slot) (λ row. IsTrue (is_queued row.state)) → OpensNone t new
opens-closes how slot t new is queued =
    let found = there (row_of t slot) (λ row. IsTrue (is_queued row.state)) queued in
    opens-changed (λ row. Some (closed (Done how) row)) slot t new (without slot t.queue) is found.0 found.1 (keeps_some found.0 (closed (Done how) found.0) refl (λ h. queued_open found.0.state found.2))

pub opens-ends : (slot : ℕ) (state : State) (t new : TicketTable) → new ≡ after (ends slot state) t → IsSome (row_of t slot) → OpensNone t new
opens-ends slot state t new is some =
    let found = some_row (row_of t slot) some in
    opens-changed (ended state) slot t new t.queue is found.0 found.1 (ended_keeps state found.0 (is_forgotten found.0.state) refl)

pub opens-takes : (slot : ℕ) (t new : TicketTable) (b : Bool) → has_spare (row_of t slot) ≡ b → new ≡ cond b (with_row (λ row. Some (without_spare row)) slot t) t → OpensNone t new
opens-takes slot t new true e is =
    let found = some_row (row_of t slot) (spare_some (row_of t slot) e) in
    opens-changed (λ row. Some (without_spare row)) slot t new t.queue is found.0 found.1 (keeps_some found.0 (without_spare found.0) refl (λ h. h))
opens-takes slot t new false e is = subst (λ (n : TicketTable). OpensNone t n) (sym is) (λ id q h. h)

pub opens-collects : (slot : ℕ) (t new : TicketTable) (b : Bool) → new ≡ cond b (record t { rows = remove t.rows slot }) t → IsSome (row_of t slot) → OpensNone t new
opens-collects slot t new true is some =
    let found = some_row (row_of t slot) some in
    subst (λ (n : TicketTable). OpensNone t n) (sym is)
    (opens-put t (record t { rows = remove t.rows slot }) slot found.0 None (λ q. get-put t.rows slot None q) found.1 (keeps_none found.0))
opens-collects slot t new false is some = subst (λ (n : TicketTable). OpensNone t n) (sym is) (λ id q h. h)

pub opens-forgets : (slot : ℕ) (t new : TicketTable) → new ≡ after (forgets slot) t → IsSome (row_of t slot) → OpensNone t new
opens-forgets slot t new is some =
    let found = some_row (row_of t slot) some in
    opens-changed dropped slot t new (without slot t.queue) is found.0 found.1 (dropped_keeps found.0 (is_flying found.0.state) refl)
