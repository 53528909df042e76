-- Each call, from what it changes in the slab and in the queue.
use Rattle.std.proofs.Common.{◌≡◌, ℕ, ◌<◌, length, eq-eqb, Bool, true, false, cond, not, List, [], ◌∷◌, ◌++◌, Option, None, Some, sym, ap, ◌∙◌, refl, subst, arith}
use Rattle.std.specs.Prelude.{IsTrue, IsSomeAnd, IsSome, IfNone, is_some, slice_index_or, slice_get, find, option_map, option_and_then}
use Rattle.std.specs.Ordering.{nat_cmp, eq_by_cmp}
use Rattle.std.specs.Cmp.{nat_cmp_total, unsigned_tied}
use Rattle.std.specs.FinMap.{get, remove, insert, empty, from_entries, get-empty, get-insert}
use Rattle.std.proofs.lemmas.Bool.{false≢true}
use Rattle.slab.specs.Slab.{Slab, Updates}
use Rattle.slab.specs.Slab as slab
use Rattle.flash_names.specs.declared.place.Id.{Id}
use Rattle.flash_io.specs.declared.row.State.{State}
use Rattle.flash_io.specs.declared.row.State.TheVariants.{Queued, Flying, Done, GivenUp}
use Rattle.flash_io.specs.States.{is_open, is_queued, is_flying, is_forgotten, is_over, forgotten_state}
use Rattle.flash_io.specs.Row.{Row, in_flight, closed, forgotten, without_spare}
use Rattle.flash_io.specs.Slots.{rows_of, Changes, changed, ended, dropped, is_queued_row, is_over_row, has_spare, has_id}
use Rattle.flash_io.specs.Queue.{without, count_of}
use Rattle.flash_io.specs.TicketTable.{TicketTable, row_of, table_of, no_tickets, next_id, asked_row}
use Rattle.flash_io.specs.Sound.{IsSound, HasOpen, HasNoOpen}
use Rattle.flash_io.specs.Calls.{submits, flies, ends, takes_spare, collects, forgets, after, with_row, unqueued}
use Rattle.slab.proofs.SlabLemmas.{length-entries_from}
use Rattle.flash_io.proofs.QueueLemmas.{without-zero, nothing-counted}
use Rattle.flash_io.proofs.SlotsLemmas.{get-rows_of, rows_of-changes, rows_of-updates}
use Rattle.flash_io.proofs.SoundLemmas.{Keeps, queued-in, sound-unqueued, sound-with_row, sound-removed, sound-pushed}

-- the tickets after a call, and what they keep
pub record Goes (t new : TicketTable) : Type 0 where
  pub is : new ≡ t
  pub sound : IsSound new

-- what is there, where something is that meets a fact
pub there : (o : Option Row) (P : Row → Type 0) → IsSomeAnd o P → (row : Row) × (o ≡ Some row) × P row
there None P h = absurd h
there (Some row) P h = (row, refl, h)

pub keeps_none : (row : Row) → Keeps row None
keeps_none row = record { named = λ new is. absurd (cc); opened = λ new is. absurd (cc) }

pub keeps_some : (row next : Row) → next.id ≡ row.id → (IsTrue (is_open next.state) → IsTrue (is_open row.state)) → Keeps row (Some next)
keeps_some row next same opens = record {
  named = λ new is. let e : next ≡ new = cc in ap (λ (r : Row). r.id) (sym e) ∙ same;
  opened = λ new is h. let e : next ≡ new = cc in opens (subst (λ (r : Row). IsTrue (is_open r.state)) (sym e) h);
}

-- a call that takes the slot out of the queue
pub goes-unqueued : (change : Row → Option Row) (slot : ℕ) (s s' : Slab Row) (xs xs' : List ℕ) (row : Row) → IsSound (table_of s xs) → slab.get s slot ≡ Some row → Keeps row (change row) → is_queued_row (change row) ≡ false → Changes change slot s s' → xs' ≡ without slot xs → Goes (unqueued change slot (table_of s xs)) (table_of s' xs')
goes-unqueued change slot s s' xs xs' row sound at k out u e =
    let at_table : get (rows_of s) slot ≡ Some row = get-rows_of s slot ∙ at in
    let is_rows : rows_of s' ≡ changed change slot (rows_of s) (get (rows_of s) slot) = rows_of-changes change slot s s' row at_table u in
    let is_all : table_of s' xs' ≡ unqueued change slot (table_of s xs) = λ i. record { rows = is_rows i; queue = e i } in
    record { is = is_all; sound = subst IsSound (sym is_all) (sound-unqueued change slot (table_of s xs) row sound at_table k out) }

-- a call that leaves the queue
pub goes-with_row : (change : Row → Option Row) (slot : ℕ) (s s' : Slab Row) (xs : List ℕ) (row : Row) → IsSound (table_of s xs) → slab.get s slot ≡ Some row → Keeps row (change row) → is_queued_row (change row) ≡ is_queued row.state → Changes change slot s s' → Goes (with_row change slot (table_of s xs)) (table_of s' xs)
goes-with_row change slot s s' xs row sound at k same u =
    let at_table : get (rows_of s) slot ≡ Some row = get-rows_of s slot ∙ at in
    let is_rows : rows_of s' ≡ changed change slot (rows_of s) (get (rows_of s) slot) = rows_of-changes change slot s s' row at_table u in
    let is_all : table_of s' xs ≡ with_row change slot (table_of s xs) = λ i. record { rows = is_rows i; queue = xs } in
    record { is = is_all; sound = subst IsSound (sym is_all) (sound-with_row change slot (table_of s xs) row sound at_table k same) }

pub queued_open : (state : State) → IsTrue (is_queued state) → IsTrue (is_open state)
queued_open Queued h = refl
queued_open (Flying reader awaited) h = absurd (false≢true h)
queued_open (Done how) h = refl
queued_open GivenUp h = refl

flying_closed : (state : State) → IsTrue (is_flying state) → is_queued state ≡ false
flying_closed Queued h = absurd (false≢true h)
flying_closed (Flying reader awaited) h = refl
flying_closed (Done how) h = refl
flying_closed GivenUp h = refl

pub over_closed : (state : State) → IsTrue (is_over state) → is_queued state ≡ false
over_closed Queued h = absurd (false≢true h)
over_closed (Flying reader awaited) h = refl
over_closed (Done how) h = refl
over_closed GivenUp h = refl

-- a reader takes the job of a queued ticket
pub goes-flies : (slot reader : ℕ) (s s' : Slab Row) (xs xs' : List ℕ) → IsSound (table_of s xs) → IsSomeAnd (slab.get s slot) (λ row. IsTrue (is_queued row.state)) → Changes (λ row. Some (in_flight reader row)) slot s s' → xs' ≡ without slot xs → Goes (after (flies slot reader) (table_of s xs)) (table_of s' xs')
goes-flies slot reader s s' xs xs' sound at u e =
    let found = there (slab.get s slot) (λ row. IsTrue (is_queued row.state)) at in
    goes-unqueued (λ row. Some (in_flight reader row)) slot s s' xs xs' found.0 sound found.1
    (keeps_some found.0 (in_flight reader found.0) refl (λ h. queued_open found.0.state found.2)) refl u e

-- the read of a queued ticket is closed
pub goes-loses : (how : State) (slot : ℕ) (s s' : Slab Row) (xs xs' : List ℕ) → is_queued how ≡ false → IsSound (table_of s xs) → IsSomeAnd (slab.get s slot) (λ row. IsTrue (is_queued row.state)) → Changes (λ row. Some (closed how row)) slot s s' → xs' ≡ without slot xs → Goes (unqueued (λ row. Some (closed how row)) slot (table_of s xs)) (table_of s' xs')
goes-loses how slot s s' xs xs' over sound at u e =
    let found = there (slab.get s slot) (λ row. IsTrue (is_queued row.state)) at in
    goes-unqueued (λ row. Some (closed how row)) slot s s' xs xs' found.0 sound found.1
    (keeps_some found.0 (closed how found.0) refl (λ h. queued_open found.0.state found.2)) over u e

pub ended_keeps : (state : State) (row : Row) (b : Bool) → is_forgotten row.state ≡ b → Keeps row (cond b None (Some (closed state row)))
ended_keeps state row true e = keeps_none row
ended_keeps state row false e = keeps_some row (closed state row) refl (λ h. ap not e)

ended_out : (state : State) (row : Row) (b : Bool) → is_queued state ≡ false → is_queued_row (cond b None (Some (closed state row))) ≡ false
ended_out state row true over = refl
ended_out state row false over = over

-- the job of a flying ticket has ended
pub goes-ends : (slot : ℕ) (state : State) (s s' : Slab Row) (xs : List ℕ) → is_queued state ≡ false → IsSound (table_of s xs) → IsSomeAnd (slab.get s slot) (λ row. IsTrue (is_flying row.state)) → Changes (ended state) slot s s' → Goes (after (ends slot state) (table_of s xs)) (table_of s' xs)
goes-ends slot state s s' xs over sound at u =
    let found = there (slab.get s slot) (λ row. IsTrue (is_flying row.state)) at in
    goes-with_row (ended state) slot s s' xs found.0 sound found.1
    (ended_keeps state found.0 (is_forgotten found.0.state) refl)
    (ended_out state found.0 (is_forgotten found.0.state) over ∙ sym (flying_closed found.0.state found.2)) u

-- the memory for the second copy is taken
pub goes-takes : (slot : ℕ) (s s' : Slab Row) (xs : List ℕ) → IsSound (table_of s xs) → IsTrue (has_spare (slab.get s slot)) → Changes (λ row. Some (without_spare row)) slot s s' → Goes (after (takes_spare slot) (table_of s xs)) (table_of s' xs)
goes-takes slot s s' xs sound has u =
    let row = spare_there (slab.get s slot) has in
    let here : has_spare (get (rows_of s) slot) ≡ true = ap has_spare (get-rows_of s slot) ∙ has in
    let goes = goes-with_row (λ row. Some (without_spare row)) slot s s' xs row.0 sound row.1 (keeps_some row.0 (without_spare row.0) refl (λ h. h)) refl u in
    record { is = goes.is ∙ ap (λ b. cond b (with_row (λ row. Some (without_spare row)) slot (table_of s xs)) (table_of s xs)) (sym here); sound = goes.sound }
  where
    spare_there : (o : Option Row) → IsTrue (has_spare o) → (row : Row) × (o ≡ Some row)
    spare_there None h = absurd (false≢true h)
    spare_there (Some row) h = (row, refl)

over_there : (o : Option Row) → IsTrue (is_over_row o) → (row : Row) × (o ≡ Some row) × (is_queued row.state ≡ false)
over_there None h = absurd (false≢true h)
over_there (Some row) h = (row, refl, over_closed row.state h)

-- a ticket whose read has ended is collected
pub goes-collects : (slot : ℕ) (s s' : Slab Row) (xs : List ℕ) → IsSound (table_of s xs) → IsTrue (is_over_row (slab.get s slot)) → Updates s s' slot None → Goes (after (collects slot) (table_of s xs)) (table_of s' xs)
goes-collects slot s s' xs sound over u =
    let found = over_there (slab.get s slot) over in
    let here : is_over_row (get (rows_of s) slot) ≡ true = ap is_over_row (get-rows_of s slot) ∙ over in
    let at_table : get (rows_of s) slot ≡ Some found.0 = get-rows_of s slot ∙ found.1 in
    let is_rows : rows_of s' ≡ remove (rows_of s) slot = rows_of-updates s s' slot None u in
    let gone : TicketTable = record { rows = remove (rows_of s) slot; queue = xs } in
    let is_gone : table_of s' xs ≡ gone = λ i. record { rows = is_rows i; queue = xs } in
    record {
      is = is_gone ∙ ap (λ b. cond b gone (table_of s xs)) (sym here);
      sound = subst IsSound (sym is_gone) (sound-removed slot (table_of s xs) found.0 sound at_table found.2);
    }

-- what `collect` leaves where the read hasn't ended
pub stays-collects : (slot : ℕ) (s : Slab Row) (xs : List ℕ) → is_over_row (slab.get s slot) ≡ false → table_of s xs ≡ after (collects slot) (table_of s xs)
stays-collects slot s xs opened =
    let here : is_over_row (get (rows_of s) slot) ≡ false = ap is_over_row (get-rows_of s slot) ∙ opened in
    let gone : TicketTable = record { rows = remove (rows_of s) slot; queue = xs } in
    ap (λ b. cond b gone (table_of s xs)) (sym here)

-- what `take_spare` leaves where there is none
pub stays-takes : (slot : ℕ) (s : Slab Row) (xs : List ℕ) → has_spare (slab.get s slot) ≡ false → table_of s xs ≡ after (takes_spare slot) (table_of s xs)
stays-takes slot s xs none =
    let here : has_spare (get (rows_of s) slot) ≡ false = ap has_spare (get-rows_of s slot) ∙ none in
    ap (λ b. cond b (with_row (λ row. Some (without_spare row)) slot (table_of s xs)) (table_of s xs)) (sym here)

forgotten_open : (state : State) → IsTrue (is_flying state) → IsTrue (is_open (forgotten_state state)) → IsTrue (is_open state)
forgotten_open Queued h opened = opened
forgotten_open (Flying reader awaited) h opened = absurd (false≢true opened)
forgotten_open (Done how) h opened = opened
forgotten_open GivenUp h opened = opened

forgotten_out : (state : State) → IsTrue (is_flying state) → is_queued (forgotten_state state) ≡ false
forgotten_out Queued h = absurd (false≢true h)
forgotten_out (Flying reader awaited) h = refl
forgotten_out (Done how) h = refl
forgotten_out GivenUp h = refl

pub dropped_keeps : (row : Row) (b : Bool) → is_flying row.state ≡ b → Keeps row (cond b (Some (forgotten row)) None)
dropped_keeps row true e = keeps_some row (forgotten row) refl (forgotten_open row.state e)
dropped_keeps row false e = keeps_none row

dropped_out : (row : Row) (b : Bool) → is_flying row.state ≡ b → is_queued_row (cond b (Some (forgotten row)) None) ≡ false
dropped_out row true e = forgotten_out row.state e
dropped_out row false e = refl

-- a ticket is forgotten
pub goes-forgets : (slot : ℕ) (s s' : Slab Row) (xs xs' : List ℕ) → IsSound (table_of s xs) → IsSome (slab.get s slot) → Changes dropped slot s s' → xs' ≡ without slot xs → Goes (after (forgets slot) (table_of s xs)) (table_of s' xs')
goes-forgets slot s s' xs xs' sound at u e =
    let found = row_there (slab.get s slot) at in
    goes-unqueued dropped slot s s' xs xs' found.0 sound found.1 (dropped_keeps found.0 (is_flying found.0.state) refl) (dropped_out found.0 (is_flying found.0.state) refl) u e
  where
    row_there : (o : Option Row) → IsSome o → (row : Row) × (o ≡ Some row)
    row_there None h = absurd (false≢true h)
    row_there (Some row) h = (row, refl)

-- a ticket is submitted
pub goes-submits : (slot : ℕ) (row : Row) (s s' : Slab Row) (xs : List ℕ) → IsSound (table_of s xs) → slab.get s slot ≡ None → is_queued row.state ≡ true → HasNoOpen (table_of s xs) row.id → Updates s s' slot (Some row) → Goes (after (submits slot row) (table_of s xs)) (table_of s' (xs ++ slot ∷ []))
goes-submits slot row s s' xs sound free queued fresh u =
    let at_table : get (rows_of s) slot ≡ None = get-rows_of s slot ∙ free in
    let is_rows : rows_of s' ≡ insert (rows_of s) slot row = rows_of-updates s s' slot (Some row) u in
    let is_all : table_of s' (xs ++ slot ∷ []) ≡ after (submits slot row) (table_of s xs) = λ i. record { rows = is_rows i; queue = xs ++ slot ∷ [] } in
    record { is = is_all; sound = subst IsSound (sym is_all) (sound-pushed slot (table_of s xs) row sound at_table queued fresh) }

-- what the tickets have in a slot is what the slab has there
pub row_of-view : (s : Slab Row) (xs : List ℕ) (t : TicketTable) (slot : ℕ) → table_of s xs ≡ t → row_of t slot ≡ slab.get s slot
row_of-view s xs t slot e = ap (λ (u : TicketTable). row_of u slot) (sym e) ∙ get-rows_of s slot

pub some_of : (o : Option Row) (P : Row → Type 0) → IsSomeAnd o P → IsSome o
some_of None P h = absurd h
some_of (Some row) P h = refl

pub and_weaker : (o : Option Row) (P Q : Row → Type 0) → ((row : Row) → P row → Q row) → IsSomeAnd o P → IsSomeAnd o Q
and_weaker None P Q f h = absurd h
and_weaker (Some row) P Q f h = f row h

-- whether the memory for the second copy was taken or not
pub goes-take_spare : (slot : ℕ) (s s' : Slab Row) (xs : List ℕ) (r : Option (List ℕ)) → IsSound (table_of s xs) → is_some r ≡ has_spare (slab.get s slot) → (IsSome r → Changes (λ row. Some (without_spare row)) slot s s') → IfNone r (s' ≡ s) → Goes (after (takes_spare slot) (table_of s xs)) (table_of s' xs)
goes-take_spare slot s s' xs None sound has u same = record {
  is = ap (λ (v : Slab Row). table_of v xs) same ∙ stays-takes slot s xs (sym has);
  sound = subst (λ (v : Slab Row). IsSound (table_of v xs)) (sym same) sound;
}
goes-take_spare slot s s' xs (Some bytes) sound has u same = goes-takes slot s s' xs sound (sym has) (u refl)

-- whether the ticket was collected or stays
pub goes-collect : (slot : ℕ) (s s' : Slab Row) (xs : List ℕ) (over : Bool) → is_over_row (slab.get s slot) ≡ over → IsSound (table_of s xs) → (IsTrue (is_over_row (slab.get s slot)) → Updates s s' slot None) → (is_over_row (slab.get s slot) ≡ false → s' ≡ s) → Goes (after (collects slot) (table_of s xs)) (table_of s' xs)
goes-collect slot s s' xs true e sound u same = goes-collects slot s s' xs sound e (u e)
goes-collect slot s s' xs false e sound u same = record {
  is = ap (λ (v : Slab Row). table_of v xs) (same e) ∙ stays-collects slot s xs e;
  sound = subst (λ (v : Slab Row). IsSound (table_of v xs)) (sym (same e)) sound;
}

-- the queue of a ticket that is forgotten
pub left-forgotten : (s : Slab Row) (xs left : List ℕ) (slot : ℕ) (row : Row) (queued : Bool) → IsSound (table_of s xs) → slab.get s slot ≡ Some row → queued ≡ is_queued row.state → left ≡ cond queued (without slot xs) xs → left ≡ without slot xs
left-forgotten s xs left slot row true sound at is e = e
left-forgotten s xs left slot row false sound at is e =
    let none : count_of slot xs ≡ 0 = sound.queue slot ∙ ap (λ o. cond (is_queued_row o) 1 0) (get-rows_of s slot ∙ at) ∙ ap (λ b. cond b 1 0) (sym is) in
    e ∙ sym (without-zero slot xs none)

-- a slot that is in the queue has a queued ticket in the slab
pub queued-slab : (s : Slab Row) (xs : List ℕ) (slot : ℕ) → IsSound (table_of s xs) → 0 < count_of slot xs → IsSomeAnd (slab.get s slot) (λ row. IsTrue (is_queued row.state))
queued-slab s xs slot sound counted =
    subst (λ (o : Option Row). IsSomeAnd o (λ row. IsTrue (is_queued row.state))) (get-rows_of s slot) (queued-in (table_of s xs) slot sound counted)

-- a fact of what the slab has in a slot is one of what the tickets have there
pub to_view : (s : Slab Row) (xs : List ℕ) (t : TicketTable) (slot same : ℕ) (P : Row → Type 0) → table_of s xs ≡ t → same ≡ slot → IsSomeAnd (slab.get s slot) P → IsSomeAnd (row_of t same) P
to_view s xs t slot same P e is h = subst (λ (o : Option Row). IsSomeAnd o P) (sym (row_of-view s xs t slot e) ∙ ap (row_of t) (sym is)) h

-- the other way round
pub from_view : (s : Slab Row) (xs : List ℕ) (t : TicketTable) (slot : ℕ) (P : Row → Type 0) → table_of s xs ≡ t → IsSomeAnd (row_of t slot) P → IsSomeAnd (slab.get s slot) P
from_view s xs t slot P e h = subst (λ (o : Option Row). IsSomeAnd o P) (row_of-view s xs t slot e) h

-- an open ticket is there
pub open_there : (s : Slab Row) (xs : List ℕ) (t : TicketTable) (id : Id) (slot : ℕ) → table_of s xs ≡ t → HasOpen t id slot → IsSome (slab.get s slot)
open_there s xs t id slot e h = subst IsSome (sym h.there ∙ row_of-view s xs t slot e) refl

no_length : (es : List (ℕ × Row)) → length es ≡ 0 → es ≡ []
no_length [] e = refl
no_length (x ∷ es) e = absurd (omega arith)

entries_of_empty : (es : List (ℕ × Row)) → from_entries {R = nat_cmp} es ≡ empty → length es ≡ 0
entries_of_empty [] e = refl
entries_of_empty (x ∷ es) e =
    let same : eq_by_cmp nat_cmp x.0 x.0 ≡ true = unsigned_tied x.0 x.0 ∙ eq-eqb x.0 x.0 refl in
    let found : get (from_entries {R = nat_cmp} (x ∷ es)) x.0 ≡ Some x.1 = get-insert nat_cmp_total (from_entries es) x.0 x.1 x.0 ∙ ap (λ b. cond b (Some x.1) (get (from_entries {R = nat_cmp} es) x.0)) same in
    let lost : get (from_entries {R = nat_cmp} (x ∷ es)) x.0 ≡ None = ap (λ m. get m x.0) e ∙ get-empty nat_cmp x.0 in
    absurd (cc)

-- the slab is empty where nothing is kept
pub nothing-there : (s : Slab Row) (xs : List ℕ) → table_of s xs ≡ no_tickets → slab.slab_len s ≡ 0
nothing-there s xs e = sym (length-entries_from 0 s.slots) ∙ entries_of_empty (slab.entries s) (ap (λ (t : TicketTable). t.rows) e)

-- no tickets are sound
pub sound-none : (s : Slab Row) (xs : List ℕ) → s.slots ≡ [] → xs ≡ [] → IsSound (table_of s xs)
sound-none s xs no_slots no_queue =
    let free : (slot : ℕ) → get (rows_of s) slot ≡ None = λ slot. get-rows_of s slot ∙ ap (λ (l : List (Option Row)). slice_index_or l slot None) no_slots in
    record {
      queue = λ slot. ap (count_of slot) no_queue ∙ sym (ap (λ o. cond (is_queued_row o) 1 0) (free slot));
      ids = λ id a b ha hb. absurd (let h = ha.there in let f = free a in cc);
    }

-- nothing is kept where the slab is empty
pub nothing-kept : (s : Slab Row) (xs : List ℕ) → IsSound (table_of s xs) → slab.slab_len s ≡ 0 → table_of s xs ≡ no_tickets
nothing-kept s xs sound none =
    let no_entries : slab.entries s ≡ [] = no_length (slab.entries s) (length-entries_from 0 s.slots ∙ none) in
    let no_rows : rows_of s ≡ empty = ap from_entries no_entries in
    let no_queue : xs ≡ [] = nothing-counted xs (λ slot. sound.queue slot ∙ ap (λ o. cond (is_queued_row o) 1 0) (ap (λ m. get m slot) no_rows ∙ get-empty nat_cmp slot)) in
    λ i. record { rows = no_rows i; queue = no_queue i }

-- the id of the queue's first ticket
pub next-view : (s : Slab Row) (xs : List ℕ) (t : TicketTable) (slot : ℕ) (row : Row) → table_of s xs ≡ t → slice_get xs 0 ≡ Some slot → slab.get s slot ≡ Some row → next_id t ≡ Some row.id
next-view s xs t slot row e first at =
    ap next_id (sym e)
    ∙ ap (option_and_then (λ (n : ℕ). option_map (λ (r : Row). r.id) (get (rows_of s) n))) first
    ∙ ap (option_map (λ (r : Row). r.id)) (get-rows_of s slot ∙ at)

-- the queued ticket of an id, as the slab has it
pub asked-queued : (s : Slab Row) (xs : List ℕ) (t : TicketTable) (id : Id) (slot : ℕ) → table_of s xs ≡ t → find (λ n. has_id id (get (rows_of s) n)) xs ≡ Some slot → asked_row t id None ≡ slab.get s slot
asked-queued s xs t id slot e found =
    ap (λ (u : TicketTable). asked_row u id None) (sym e)
    ∙ ap (option_and_then (λ (n : ℕ). get (rows_of s) n)) found
    ∙ get-rows_of s slot

-- a ticket is submitted, once there is room
pub goes-submit : (slot : ℕ) (row : Row) (s roomy s' : Slab Row) (xs ready xs' : List ℕ) → roomy ≡ record s { capacity = roomy.capacity } → ready ≡ xs → xs' ≡ ready ++ slot ∷ [] → IsSound (table_of s xs) → slab.get roomy slot ≡ None → is_queued row.state ≡ true → HasNoOpen (table_of s xs) row.id → Updates roomy s' slot (Some row) → Goes (after (submits slot row) (table_of s xs)) (table_of s' xs')
goes-submit slot row s roomy s' xs ready xs' more same pushed sound free queued fresh u =
    let rows_same : table_of roomy xs ≡ table_of s xs = ap (λ (v : Slab Row). table_of v xs) more in
    let goes = goes-submits slot row roomy s' xs (subst IsSound (sym rows_same) sound) free queued (subst (λ (t : TicketTable). HasNoOpen t row.id) (sym rows_same) fresh) u in
    let last : xs' ≡ xs ++ slot ∷ [] = pushed ∙ ap (λ (l : List ℕ). l ++ slot ∷ []) same in
    record {
      is = ap (table_of s') last ∙ goes.is ∙ ap (after (submits slot row)) rows_same;
      sound = subst (λ (l : List ℕ). IsSound (table_of s' l)) (sym last) goes.sound;
    }
