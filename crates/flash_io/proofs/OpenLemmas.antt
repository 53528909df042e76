-- The open tickets and the jobs that are out, after a call.
use Rattle.std.proofs.Common.{◌≡◌, ℕ, Bool, true, false, cond, not, eqb, List, Option, None, Some, sym, ap, ◌∙◌, refl, subst}
use Rattle.std.specs.Prelude.{IsTrue, IsSomeAnd, IsSome}
use Rattle.std.specs.Ordering.{nat_cmp}
use Rattle.std.specs.FinMap.{get-empty}
use Rattle.std.proofs.lemmas.Bool.{false≢true}
use borrow.Author.Tests.{eqb-true}
use Rattle.flash_names.specs.declared.place.Id.{Id}
use Rattle.flash_io.specs.declared.job.ReadJob.{ReadJob}
use Rattle.flash_io.specs.declared.row.State.{State}
use Rattle.flash_io.specs.declared.row.State.TheVariants.{Queued, Flying, Done, GivenUp}
use Rattle.flash_entry.specs.declared.found.Closed.{Closed}
use Rattle.flash_io.specs.States.{is_open, is_flying, is_forgotten, is_over, forgotten_state}
use Rattle.flash_io.specs.Row.{Row, in_flight, closed, forgotten, without_spare}
use Rattle.flash_io.specs.Slots.{changed, ended, dropped, has_spare}
use Rattle.flash_io.specs.Queue.{without}
use Rattle.flash_io.specs.TicketTable.{TicketTable, row_of, no_tickets}
use Rattle.flash_io.specs.Answers.{IsJob, IsFlyingAs}
use Rattle.flash_io.specs.Sound.{HasOpen, HasNoOpen, KeepsOpen, IsOut}
use Rattle.flash_io.specs.Calls.{submits, flies, ends, forgets, after, with_row, unqueued}
use Rattle.flash_io.proofs.SoundLemmas.{PutAt, at_slot, put_by, keeps-put, get-put}
use Rattle.flash_io.proofs.TableLemmas.{there}

-- the ticket that was there has another, which is open and has its id
pub record Stays (row : Row) (o : Option Row) : Type 0 where
  pub next : Row
  pub is : o ≡ Some next
  pub named : next.id ≡ row.id
  pub opened : IsTrue (is_open next.state)

pub some_row : (o : Option Row) → IsSome o → (row : Row) × (o ≡ Some row)
some_row None h = absurd (false≢true h)
some_row (Some row) h = (row, refl)

-- a change of one slot that leaves an open ticket open
pub keeps-changed : (change : Row → Option Row) (slot : ℕ) (t new : TicketTable) (queue : List ℕ) → new ≡ record { rows = changed change slot t.rows (row_of t slot); queue = queue } → IsSome (row_of t slot) → ((row : Row) → row_of t slot ≡ Some row → IsTrue (is_open row.state) → Stays row (change row)) → KeepsOpen t new
keeps-changed change slot t new queue is some stays =
    let found = some_row (row_of t slot) some in
    let kept : KeepsOpen t (record { rows = changed change slot t.rows (row_of t slot); queue = queue }) =
    keeps-put t (record { rows = changed change slot t.rows (row_of t slot); queue = queue }) slot (change found.0) (put_by change slot t found.0 found.1 queue) (λ row here opened.
    let same : row ≡ found.0 = cc in
    let s = stays row here opened in
    (s.next, (ap change (sym same) ∙ s.is), s.named, s.opened)) in
    subst (λ (n : TicketTable). KeepsOpen t n) (sym is) kept

pub keeps-flies : (slot reader : ℕ) (t new : TicketTable) → new ≡ after (flies slot reader) t → IsSome (row_of t slot) → KeepsOpen t new
keeps-flies slot reader t new is some =
    keeps-changed (λ row. Some (in_flight reader row)) slot t new (without slot t.queue) is some (λ row here opened. record { next = in_flight reader row; is = refl; named = refl; opened = refl })

pub keeps-closes : (how : Closed) (slot : ℕ) (t new : TicketTable) → new ≡ unqueued (λ row. Some (closed (Done how) row)) slot t → IsSome (row_of t slot) → KeepsOpen t new
keeps-closes how slot t new is some =
    keeps-changed (λ row. Some (closed (Done how) row)) slot t new (without slot t.queue) is some (λ row here opened. record { next = closed (Done how) row; is = refl; named = refl; opened = refl })

over_open : (state : State) → IsTrue (is_over state) → IsTrue (is_open state)
over_open Queued h = refl
over_open (Flying reader awaited) h = absurd (false≢true h)
over_open (Done how) h = refl
over_open GivenUp h = refl

ended_stays : (state : State) (row : Row) (b : Bool) → IsTrue (is_over state) → IsTrue (not b) → Stays row (cond b None (Some (closed state row)))
ended_stays state row true over opened = absurd (false≢true opened)
ended_stays state row false over opened = record { next = closed state row; is = refl; named = refl; opened = over_open state over }

pub keeps-ends : (slot : ℕ) (state : State) (t new : TicketTable) → new ≡ after (ends slot state) t → IsTrue (is_over state) → IsSome (row_of t slot) → KeepsOpen t new
keeps-ends slot state t new is over some =
    keeps-changed (ended state) slot t new t.queue is some (λ row here opened. ended_stays state row (is_forgotten row.state) over opened)

pub spare_some : (o : Option Row) → has_spare o ≡ true → IsSome o
spare_some None h = absurd (false≢true h)
spare_some (Some row) h = refl

pub keeps-takes : (slot : ℕ) (t new : TicketTable) (b : Bool) → has_spare (row_of t slot) ≡ b → new ≡ cond b (with_row (λ row. Some (without_spare row)) slot t) t → KeepsOpen t new
keeps-takes slot t new true e is =
    keeps-changed (λ row. Some (without_spare row)) slot t new t.queue is (spare_some (row_of t slot) e) (λ row here opened. record { next = without_spare row; is = refl; named = refl; opened = opened })
keeps-takes slot t new false e is = subst (λ (n : TicketTable). KeepsOpen t n) (sym is) (λ id q h. h)

-- a job is still out where the ticket that is put in its slot is flying with its id and place
put_out : (t new : TicketTable) (slot : ℕ) (o : Option Row) (job : ReadJob) → PutAt t new slot o → (IsSomeAnd (row_of t slot) (IsFlyingAs job) → IsSomeAnd o (IsFlyingAs job)) → (b : Bool) → eqb job.slot slot ≡ b → IsOut t job → IsOut new job
put_out t new slot o job p stays true e h =
    let same : job.slot ≡ slot = eqb-true job.slot slot e in
    let now : row_of new job.slot ≡ o = ap (row_of new) same ∙ at_slot t new slot o p in
    subst (λ (r : Option Row). IsSomeAnd r (IsFlyingAs job)) (sym now) (stays (subst (λ (n : ℕ). IsSomeAnd (row_of t n) (IsFlyingAs job)) same h))
put_out t new slot o job p stays false e h =
    let now : row_of new job.slot ≡ row_of t job.slot = p job.slot ∙ ap (λ b. cond b o (row_of t job.slot)) e in
    subst (λ (r : Option Row). IsSomeAnd r (IsFlyingAs job)) (sym now) h

-- a change of one slot that leaves a job out
pub out-changed : (change : Row → Option Row) (slot : ℕ) (t new : TicketTable) (queue : List ℕ) → new ≡ record { rows = changed change slot t.rows (row_of t slot); queue = queue } → IsSome (row_of t slot) → (job : ReadJob) → ((row : Row) → IsFlyingAs job row → IsSomeAnd (change row) (IsFlyingAs job)) → IsOut t job → IsOut new job
out-changed change slot t new queue is some job stays h =
    let found = some_row (row_of t slot) some in
    let next : TicketTable = record { rows = changed change slot t.rows (row_of t slot); queue = queue } in
    subst (λ (n : TicketTable). IsOut n job) (sym is)
    (put_out t next slot (change found.0) job (put_by change slot t found.0 found.1 queue)
    (λ was. stays found.0 (subst (λ (r : Option Row). IsSomeAnd r (IsFlyingAs job)) found.1 was)) (eqb job.slot slot) refl h)

pub out-takes : (slot : ℕ) (t new : TicketTable) (b : Bool) → has_spare (row_of t slot) ≡ b → new ≡ cond b (with_row (λ row. Some (without_spare row)) slot t) t → (job : ReadJob) → IsOut t job → IsOut new job
out-takes slot t new true e is job h =
    out-changed (λ row. Some (without_spare row)) slot t new t.queue is (spare_some (row_of t slot) e) job (λ row was. record { flying = was.flying; id = was.id; place = was.place }) h
out-takes slot t new false e is job h = subst (λ (n : TicketTable). IsOut n job) (sym is) h

flying_forgotten : (state : State) → IsTrue (is_flying state) → IsTrue (is_flying (forgotten_state state))
flying_forgotten Queued h = absurd (false≢true h)
flying_forgotten (Flying reader awaited) h = refl
flying_forgotten (Done how) h = absurd (false≢true h)
flying_forgotten GivenUp h = absurd (false≢true h)

dropped_out : (job : ReadJob) (row : Row) → IsFlyingAs job row → (b : Bool) → is_flying row.state ≡ b → IsSomeAnd (cond b (Some (forgotten row)) None) (IsFlyingAs job)
dropped_out job row was true e = record { flying = flying_forgotten row.state was.flying; id = was.id; place = was.place }
dropped_out job row was false e = absurd (false≢true (sym e ∙ was.flying))

pub out-forgets : (slot : ℕ) (t new : TicketTable) → new ≡ after (forgets slot) t → IsSome (row_of t slot) → (job : ReadJob) → IsOut t job → IsOut new job
out-forgets slot t new is some job h =
    out-changed dropped slot t new (without slot t.queue) is some job (λ row was. dropped_out job row was (is_flying row.state) refl) h

-- the job that a reader has taken is out
pub out-flies : (reader : ℕ) (t new : TicketTable) (job : ReadJob) → new ≡ after (flies job.slot reader) t → IsSomeAnd (row_of t job.slot) (IsJob job) → IsOut new job
out-flies reader t new job is h =
    let found = there (row_of t job.slot) (IsJob job) h in
    let flown : TicketTable = after (flies job.slot reader) t in
    let now : row_of flown job.slot ≡ Some (in_flight reader found.0) = at_slot t flown job.slot (Some (in_flight reader found.0)) (put_by (λ row. Some (in_flight reader row)) job.slot t found.0 found.1 (without job.slot t.queue)) in
    subst (λ (n : TicketTable). IsOut n job) (sym is)
    (subst (λ (o : Option Row). IsSomeAnd o (IsFlyingAs job)) (sym now) (record { flying = refl; id = sym found.2.id; place = sym found.2.place }))

-- the ticket that was submitted is open, and every other stays so
pub open-submits : (slot : ℕ) (row : Row) (t new : TicketTable) → new ≡ after (submits slot row) t → IsTrue (is_open row.state) → HasOpen new row.id slot
open-submits slot row t new is opened = record {
  row = row;
  there = ap (λ (n : TicketTable). row_of n slot) is ∙ at_slot t (after (submits slot row) t) slot (Some row) (λ q. get-put t.rows slot (Some row) q);
  opened = opened;
  named = refl;
}

pub keeps-submits : (slot : ℕ) (row : Row) (t new : TicketTable) → new ≡ after (submits slot row) t → row_of t slot ≡ None → KeepsOpen t new
keeps-submits slot row t new is free =
    subst (λ (n : TicketTable). KeepsOpen t n) (sym is)
    (keeps-put t (after (submits slot row) t) slot (Some row) (λ q. get-put t.rows slot (Some row) q) (λ old here opened. absurd (cc)))

-- where nothing is kept no ticket is open
pub none-open : (t : TicketTable) → t ≡ no_tickets → (id : Id) → HasNoOpen t id
none-open t e id slot h =
    let lost : row_of t slot ≡ None = ap (λ (n : TicketTable). row_of n slot) e ∙ get-empty nat_cmp slot in
    absurd (let here = h.there in cc)
