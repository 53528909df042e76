-- No ticket is closed twice.
use Rattle.std.proofs.Common.{◌≡◌, ℕ, ◌+◌, ◌≤◌, Bool, true, false, cond, eqb, List, [], ◌∷◌, Option, None, Some, sym, ap, ◌∙◌, refl, arith, eq-eqb}
use Rattle.std.specs.Prelude.{IsTrue}
use Rattle.std.specs.FinMap.{remove}
use Rattle.std.proofs.lemmas.Bool.{ne_eqb, false≢true}
use borrow.Author.Tests.{eqb-true}
use Rattle.flash_entry.specs.declared.found.Closed.TheVariants.{Lost}
use Rattle.flash_entry.specs.declared.found.Cause.TheVariants.{Ended}
use Rattle.flash_io.specs.declared.row.State.{State}
use Rattle.flash_io.specs.declared.row.State.TheVariants.{Queued, Flying, Done, GivenUp}
use Rattle.flash_io.specs.States.{is_queued, is_flying, is_forgotten, is_over, forgotten_state}
use Rattle.flash_io.specs.Row.{Row, in_flight, closed, forgotten, without_spare}
use Rattle.flash_io.specs.Slots.{ended, dropped, has_spare, is_over_row}
use Rattle.flash_io.specs.Queue.{without}
use Rattle.flash_io.specs.TicketTable.{TicketTable, row_of}
use Rattle.flash_io.specs.Calls.{Call, submits, flies, loses, ends, takes_spare, collects, forgets, after, with_row}
use Rattle.flash_io.specs.Law.{Allowed, AllAllowed, submitted_by, closed_by, submissions, closings, unclosed}
use Rattle.flash_io.proofs.SoundLemmas.{PutAt, at_slot, put_by, get-put}
use Rattle.flash_io.proofs.TableLemmas.{there}
use Rattle.flash_io.proofs.OpenLemmas.{some_row, spare_some}

at_most : (o : Option Row) → unclosed o ≤ 1
at_most None = omega arith
at_most (Some row) = elim (is_over row.state) as (λ b. cond b 0 1 ≤ 1) [ true ↦ omega arith | false ↦ omega arith ]

zero_if : (b : Bool) → cond {A = ℕ} b 0 0 ≡ 0
zero_if true = refl
zero_if false = refl

-- what a change of one slot does to each
put_step : (old new : TicketTable) (at slot : ℕ) (o : Option Row) (c u : ℕ) → PutAt old new at o → c + unclosed o ≤ u + unclosed (row_of old at) → (b : Bool) → eqb slot at ≡ b → cond (eqb at slot) c 0 + unclosed (row_of new slot) ≤ cond (eqb at slot) u 0 + unclosed (row_of old slot)
put_step old new at slot o c u p h true e =
    let same : slot ≡ at = eqb-true slot at e in
    let is : eqb at slot ≡ true = eq-eqb at slot (sym same) in
    let now : unclosed (row_of new slot) ≡ unclosed o = ap (λ (n : ℕ). unclosed (row_of new n)) same ∙ ap unclosed (at_slot old new at o p) in
    let was : unclosed (row_of old slot) ≡ unclosed (row_of old at) = ap (λ (n : ℕ). unclosed (row_of old n)) same in
    rw (is, now, was) h
put_step old new at slot o c u p h false e =
    let other : eqb at slot ≡ false = ne_eqb at slot (λ same. false≢true (sym e ∙ eq-eqb slot at (sym same))) in
    let now : unclosed (row_of new slot) ≡ unclosed (row_of old slot) = ap unclosed (p slot ∙ ap (λ b. cond b o (row_of old slot)) e) in
    rw (other, now) (omega arith)

queued_unclosed : (state : State) → IsTrue (is_queued state) → cond {A = ℕ} (is_over state) 0 1 ≡ 1
queued_unclosed Queued h = refl
queued_unclosed (Flying reader awaited) h = refl
queued_unclosed (Done how) h = absurd (false≢true h)
queued_unclosed GivenUp h = absurd (false≢true h)

flying_unclosed : (state : State) → IsTrue (is_flying state) → cond {A = ℕ} (is_over state) 0 1 ≡ 1
flying_unclosed Queued h = refl
flying_unclosed (Flying reader awaited) h = refl
flying_unclosed (Done how) h = absurd (false≢true h)
flying_unclosed GivenUp h = absurd (false≢true h)

ended_closed : (state : State) (row : Row) (b : Bool) → IsTrue (is_over state) → unclosed (cond b None (Some (closed state row))) ≡ 0
ended_closed state row true over = refl
ended_closed state row false over = ap (λ b. cond b 0 1) over

forgotten_unclosed : (state : State) → cond {A = ℕ} (is_over (forgotten_state state)) 0 1 ≡ cond (is_over state) 0 1
forgotten_unclosed Queued = refl
forgotten_unclosed (Flying reader awaited) = refl
forgotten_unclosed (Done how) = refl
forgotten_unclosed GivenUp = refl

dropped_unclosed : (row : Row) (b : Bool) → unclosed (cond b (Some (forgotten row)) None) ≤ unclosed (Some row)
dropped_unclosed row true = let same = forgotten_unclosed row.state in omega (arith, same)
dropped_unclosed row false = omega arith

-- what a change of a row that is there does
row_step : (change : Row → Option Row) (t : TicketTable) (queue : List ℕ) (at slot c : ℕ) (row : Row) → row_of t at ≡ Some row → c + unclosed (change row) ≤ unclosed (Some row) → (new : TicketTable) → PutAt t new at (change row) → cond (eqb at slot) c 0 + unclosed (row_of new slot) ≤ unclosed (row_of t slot)
row_step change t queue at slot c row here h new p =
    let before : unclosed (row_of t at) ≡ unclosed (Some row) = ap unclosed here in
    let step = put_step t new at slot (change row) c 0 p (omega (arith, before, h)) (eqb slot at) refl in
    omega (arith, step, zero_if (eqb at slot))

spare_step : (t : TicketTable) (at slot : ℕ) (b : Bool) → has_spare (row_of t at) ≡ b → unclosed (row_of (cond b (with_row (λ row. Some (without_spare row)) at t) t) slot) ≤ unclosed (row_of t slot)
spare_step t at slot true e =
    let found = some_row (row_of t at) (spare_some (row_of t at) e) in
    let step = row_step (λ row. Some (without_spare row)) t t.queue at slot 0 found.0 found.1 (omega arith) (with_row (λ row. Some (without_spare row)) at t) (put_by (λ row. Some (without_spare row)) at t found.0 found.1 t.queue) in
    omega (arith, step, zero_if (eqb at slot))
spare_step t at slot false e = omega arith

collect_step : (t : TicketTable) (at slot : ℕ) (b : Bool) → unclosed (row_of (cond b (record t { rows = remove t.rows at }) t) slot) ≤ unclosed (row_of t slot)
collect_step t at slot true =
    let step = put_step t (record t { rows = remove t.rows at }) at slot None 0 0 (λ q. get-put t.rows at None q) (omega arith) (eqb slot at) refl in
    omega (arith, step, zero_if (eqb at slot))
collect_step t at slot false = omega arith

-- one call
step : (slot : ℕ) (t : TicketTable) (call : Call) → Allowed t call → closed_by slot call + unclosed (row_of (after call t) slot) ≤ submitted_by slot call + unclosed (row_of t slot)
step slot t (submits at row) h =
    let most = at_most (Some row) in
    let one = put_step t (after (submits at row) t) at slot (Some row) 0 1 (λ q. get-put t.rows at (Some row) q) (omega (arith, most)) (eqb slot at) refl in
    omega (arith, one, zero_if (eqb at slot))
step slot t (flies at reader) h =
    let found = there (row_of t at) (λ row. IsTrue (is_queued row.state)) h in
    let was = queued_unclosed found.0.state found.2 in
    let one = row_step (λ row. Some (in_flight reader row)) t (without at t.queue) at slot 0 found.0 found.1 (omega (arith, was)) (after (flies at reader) t) (put_by (λ row. Some (in_flight reader row)) at t found.0 found.1 (without at t.queue)) in
    omega (arith, one, zero_if (eqb at slot))
step slot t (loses at) h =
    let found = there (row_of t at) (λ row. IsTrue (is_queued row.state)) h in
    let was = queued_unclosed found.0.state found.2 in
    let change : Row → Option Row = λ row. Some (closed (Done (Lost Ended)) row) in
    let one = row_step change t (without at t.queue) at slot 1 found.0 found.1 (omega (arith, was)) (after (loses at) t) (put_by change at t found.0 found.1 (without at t.queue)) in
    omega (arith, one)
step slot t (ends at state) h =
    let found = there (row_of t at) (λ row. IsTrue (is_flying row.state)) h.0 in
    let was = flying_unclosed found.0.state found.2 in
    let now = ended_closed state found.0 (is_forgotten found.0.state) h.1 in
    let one = row_step (ended state) t t.queue at slot 1 found.0 found.1 (omega (arith, was, now)) (after (ends at state) t) (put_by (ended state) at t found.0 found.1 t.queue) in
    omega (arith, one)
step slot t (takes_spare at) h = let one = spare_step t at slot (has_spare (row_of t at)) refl in omega (arith, one)
step slot t (collects at) h = let one = collect_step t at slot (is_over_row (row_of t at)) in omega (arith, one)
step slot t (forgets at) h =
    let found = some_row (row_of t at) h in
    let now = dropped_unclosed found.0 (is_flying found.0.state) in
    let one = row_step dropped t (without at t.queue) at slot 0 found.0 found.1 (omega (arith, now)) (after (forgets at) t) (put_by dropped at t found.0 found.1 (without at t.queue)) in
    omega (arith, one, zero_if (eqb at slot))

-- any list of calls
pub closes_at_most : (slot : ℕ) (calls : List Call) (t : TicketTable) → AllAllowed t calls → closings slot calls ≤ submissions slot calls + unclosed (row_of t slot)
closes_at_most slot [] t h = omega arith
closes_at_most slot (call ∷ rest) t h =
    let one = step slot t call h.0 in
    let others = closes_at_most slot rest (after call t) h.1 in
    omega (arith, one, others)
