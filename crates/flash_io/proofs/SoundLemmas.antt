-- What each change keeps: the queue is that of the queued tickets, and open tickets have ids of their own.
use Rattle.std.proofs.Common.{◌≡◌, ℕ, ◌+◌, ◌-◌, ◌<◌, ◌≤◌, Bool, true, false, cond, eqb, List, [], ◌∷◌, ◌++◌, Option, None, Some, sym, ap, ◌∙◌, refl, subst, arith, eq-eqb}
use Rattle.std.specs.Prelude.{IsTrue, IsSomeAnd, find, slice_get}
use Rattle.std.specs.Cmp.{nat_cmp_total, unsigned_tied}
use Rattle.std.specs.FinMap.{get, insert, remove, get-insert, get-remove}
use Rattle.std.proofs.lemmas.Bool.{ne_eqb, false≢true}
use Rattle.std.proofs.lemmas.Bool.Decides.{nat_tests}
use borrow.Author.Tests.{eqb-true}
use Rattle.flash_names.specs.declared.place.Id.{Id}
use Rattle.flash_io.specs.States.{is_open, is_queued}
use Rattle.flash_io.specs.Row.{Row}
use Rattle.flash_io.specs.Slots.{Rows, put, changed, is_queued_row}
use Rattle.flash_io.specs.Queue.{without, count_of}
use Rattle.flash_io.specs.TicketTable.{TicketTable, row_of}
use Rattle.flash_io.specs.Sound.{IsSound, HasOpen, HaveOwnIds, HasNoOpen, KeepsOpen}
use Rattle.flash_io.specs.Calls.{with_row, unqueued}

-- one where the row is that of a queued ticket
abbrev weight : Option Row → ℕ
weight o = cond (is_queued_row o) 1 0

one_apart : (x slot other a b : ℕ) → eqb x slot ≡ false → b ≡ a - cond (eqb slot other) 1 0 → cond (eqb x other) 1 0 + b ≡ (cond (eqb x other) 1 0 + a) - cond (eqb slot other) 1 0
one_apart x slot other a b apart e = grind (arith, nat_tests)

pub count-without : (slot : ℕ) (xs : List ℕ) (other : ℕ) → count_of other (without slot xs) ≡ count_of other xs - cond (eqb slot other) 1 0
count-without slot [] other = elim (eqb slot other) as (λ b. 0 ≡ 0 - cond b 1 0) [ true ↦ refl | false ↦ refl ]
count-without slot (x ∷ xs) other =
    elim (eqb x slot) as (λ b. eqb x slot ≡ b → count_of other (cond b xs (x ∷ without slot xs)) ≡ (cond (eqb x other) 1 0 + count_of other xs) - cond (eqb slot other) 1 0) [
      | true ↦ λ e. let same : x ≡ slot = eqb-true x slot e in rw (← same) (omega arith)
      | false ↦ λ e. one_apart x slot other (count_of other xs) (count_of other (without slot xs)) e (count-without slot xs other)
    ] refl

pub count-push : (slot : ℕ) (xs : List ℕ) (other : ℕ) → count_of other (xs ++ slot ∷ []) ≡ count_of other xs + cond (eqb slot other) 1 0
count-push slot [] other = omega arith
count-push slot (x ∷ xs) other = let rest = count-push slot xs other in omega (arith, rest)

-- a slot that is found is in the queue
pub count-find : (p : ℕ → Bool) (xs : List ℕ) (slot : ℕ) → find p xs ≡ Some slot → 0 < count_of slot xs
count-find p [] slot e = absurd (cc)
count-find p (x ∷ xs) slot e =
    elim (p x) as (λ b. cond b (Some x) (find p xs) ≡ Some slot → 0 < cond (eqb x slot) 1 0 + count_of slot xs) [
      | true ↦ λ found. let same : x ≡ slot = cc in rw (eq-eqb x slot same) (omega arith)
      | false ↦ λ found. let rest = count-find p xs slot found in omega (arith, rest)
    ] e

-- so is the first one
pub count-first : (xs : List ℕ) (slot : ℕ) → slice_get xs 0 ≡ Some slot → 0 < count_of slot xs
count-first [] slot e = absurd (cc)
count-first (x ∷ xs) slot e = let same : x ≡ slot = cc in rw (eq-eqb x slot same) (omega arith)

queued_at : (o : Option Row) → 0 < cond (is_queued_row o) 1 0 → IsSomeAnd o (λ row. IsTrue (is_queued row.state))
queued_at None h = absurd (omega arith)
queued_at (Some row) h = elim (is_queued row.state) as (λ b. 0 < cond b 1 0 → IsTrue b) [ true ↦ λ _. refl | false ↦ λ low. absurd (omega arith) ] h

-- a slot that is in the queue has a queued ticket
pub queued-in : (t : TicketTable) (slot : ℕ) → IsSound t → 0 < count_of slot t.queue → IsSomeAnd (row_of t slot) (λ row. IsTrue (is_queued row.state))
queued-in t slot s h = queued_at (row_of t slot) (subst (λ (n : ℕ). 0 < n) (s.queue slot) h)

pub get-put : (rows : Rows) (slot : ℕ) (o : Option Row) (q : ℕ) → get (put slot o rows) q ≡ cond (eqb q slot) o (get rows q)
get-put rows slot None q = get-remove nat_cmp_total rows slot q ∙ ap (λ b. cond b None (get rows q)) (unsigned_tied q slot)
get-put rows slot (Some row) q = get-insert nat_cmp_total rows slot row q ∙ ap (λ b. cond b (Some row) (get rows q)) (unsigned_tied q slot)

-- the slot has this, and every other slot what it had
abbrev pub PutAt : TicketTable → TicketTable → ℕ → Option Row → Type 0
PutAt old new slot o = (q : ℕ) → row_of new q ≡ cond (eqb q slot) o (row_of old q)

-- where an open ticket is put, no other open ticket has its id
abbrev pub IsAlone : TicketTable → ℕ → Option Row → Type 0
IsAlone t slot o = (row : Row) → o ≡ Some row → IsTrue (is_open row.state) → (other : ℕ) → HasOpen t row.id other → other ≡ slot

pub at_slot : (old new : TicketTable) (slot : ℕ) (o : Option Row) → PutAt old new slot o → row_of new slot ≡ o
at_slot old new slot o p = p slot ∙ ap (λ b. cond b o (row_of old slot)) (eq-eqb slot slot refl)

pub elsewhere : (old new : TicketTable) (slot : ℕ) (o : Option Row) → PutAt old new slot o → (q : ℕ) → eqb q slot ≡ false → row_of new q ≡ row_of old q
elsewhere old new slot o p q e = p q ∙ ap (λ b. cond b o (row_of old q)) e

pub open_elsewhere : (old new : TicketTable) (slot : ℕ) (o : Option Row) → PutAt old new slot o → (id : Id) (q : ℕ) → eqb q slot ≡ false → HasOpen new id q → HasOpen old id q
open_elsewhere old new slot o p id q e h = record {
  row = h.row;
  there = sym (elsewhere old new slot o p q e) ∙ h.there;
  opened = h.opened;
  named = h.named;
}

alone : (old new : TicketTable) (slot : ℕ) (o : Option Row) → PutAt old new slot o → IsAlone old slot o → (id : Id) (a b : ℕ) → a ≡ slot → HasOpen new id a → HasOpen old id b → b ≡ slot
alone old new slot o p single id a b e h other =
    single h.row (sym (at_slot old new slot o p) ∙ ap (row_of new) (sym e) ∙ h.there) h.opened b (subst (λ (i : Id). HasOpen old i b) (sym h.named) other)

own_ids : (old new : TicketTable) (slot : ℕ) (o : Option Row) → PutAt old new slot o → IsAlone old slot o → HaveOwnIds old → HaveOwnIds new
own_ids old new slot o p single own id a b ha hb =
    elim (eqb a slot) as (λ x. eqb a slot ≡ x → a ≡ b) [
      | true ↦ λ ea. elim (eqb b slot) as (λ y. eqb b slot ≡ y → a ≡ b) [
        | true ↦ λ eb. eqb-true a slot ea ∙ sym (eqb-true b slot eb)
        | false ↦ λ eb. eqb-true a slot ea ∙ sym (alone old new slot o p single id a b (eqb-true a slot ea) ha (open_elsewhere old new slot o p id b eb hb))
      ] refl
      | false ↦ λ ea. elim (eqb b slot) as (λ y. eqb b slot ≡ y → a ≡ b) [
        | true ↦ λ eb. alone old new slot o p single id b a (eqb-true b slot eb) hb (open_elsewhere old new slot o p id a ea ha) ∙ sym (eqb-true b slot eb)
        | false ↦ λ eb. own id a b (open_elsewhere old new slot o p id a ea ha) (open_elsewhere old new slot o p id b eb hb)
      ] refl
    ] refl

-- what a change of one slot keeps, where the queue changes with it
pub sound-put : (old new : TicketTable) (slot : ℕ) (o : Option Row) → IsSound old → PutAt old new slot o → IsAlone old slot o → ((q : ℕ) → count_of q new.queue ≡ cond (eqb q slot) (weight o) (count_of q old.queue)) → IsSound new
sound-put old new slot o s p single counts = record {
  queue = λ q. counts q ∙ elim (eqb q slot) as (λ b. eqb q slot ≡ b → cond b (weight o) (count_of q old.queue) ≡ weight (row_of new q)) [
    | true ↦ λ e. ap weight (sym (at_slot old new slot o p) ∙ ap (row_of new) (sym (eqb-true q slot e)))
    | false ↦ λ e. s.queue q ∙ ap weight (sym (elsewhere old new slot o p q e))
  ] refl;
  ids = own_ids old new slot o p single s.ids;
}

-- the ticket that is kept has the id that it had, and is open only where it was
pub record Keeps (row : Row) (o : Option Row) : Type 0 where
  pub named : (new : Row) → o ≡ Some new → new.id ≡ row.id
  pub opened : (new : Row) → o ≡ Some new → IsTrue (is_open new.state) → IsTrue (is_open row.state)

kept_alone : (t : TicketTable) (slot : ℕ) (row : Row) (o : Option Row) → IsSound t → row_of t slot ≡ Some row → Keeps row o → IsAlone t slot o
kept_alone t slot row o s there k new is is_new other h =
    let mine : HasOpen t new.id slot = record { row = row; there = there; opened = k.opened new is is_new; named = sym (k.named new is) } in
    s.ids new.id other slot h mine

pub put_by : (change : Row → Option Row) (slot : ℕ) (t : TicketTable) (row : Row) → row_of t slot ≡ Some row → (queue : List ℕ) → PutAt t (record { rows = changed change slot t.rows (row_of t slot); queue = queue }) slot (change row)
put_by change slot t row there queue q = ap (λ o. get (changed change slot t.rows o) q) there ∙ get-put t.rows slot (change row) q

at_most_one : (o : Option Row) → weight o ≤ 1
at_most_one o = elim (is_queued_row o) as (λ b. cond b 1 0 ≤ 1) [ true ↦ omega arith | false ↦ omega arith ]

taken_count : (t : TicketTable) (slot : ℕ) (o : Option Row) → IsSound t → is_queued_row o ≡ false → (q : ℕ) (b : Bool) → eqb q slot ≡ b → count_of q t.queue - cond (eqb slot q) 1 0 ≡ cond b (weight o) (count_of q t.queue)
taken_count t slot o s out q true e =
    let same : eqb slot q ≡ true = eq-eqb slot q (sym (eqb-true q slot e)) in
    let few : count_of q t.queue ≤ 1 = subst (λ (n : ℕ). n ≤ 1) (sym (s.queue q)) (at_most_one (row_of t q)) in
    rw (same, out) (omega arith)
taken_count t slot o s out q false e =
    let other : eqb slot q ≡ false = ne_eqb slot q (λ same. false≢true (sym e ∙ eq-eqb q slot (sym same))) in
    rw other (omega arith)

-- a change that takes the slot out of the queue
pub sound-unqueued : (change : Row → Option Row) (slot : ℕ) (t : TicketTable) (row : Row) → IsSound t → row_of t slot ≡ Some row → Keeps row (change row) → is_queued_row (change row) ≡ false → IsSound (unqueued change slot t)
sound-unqueued change slot t row s there k out =
    sound-put t (unqueued change slot t) slot (change row) s (put_by change slot t row there (without slot t.queue)) (kept_alone t slot row (change row) s there k) (λ q. count-without slot t.queue q ∙ taken_count t slot (change row) s out q (eqb q slot) refl)

same_count : (t : TicketTable) (slot : ℕ) (row : Row) (o : Option Row) → IsSound t → row_of t slot ≡ Some row → is_queued_row o ≡ is_queued row.state → (q : ℕ) (b : Bool) → eqb q slot ≡ b → count_of q t.queue ≡ cond b (weight o) (count_of q t.queue)
same_count t slot row o s there same q true e =
    s.queue q ∙ ap (λ i. weight (row_of t i)) (eqb-true q slot e) ∙ ap weight there ∙ ap (λ b. cond b 1 0) (sym same)
same_count t slot row o s there same q false e = refl

-- a change that leaves the queue
pub sound-with_row : (change : Row → Option Row) (slot : ℕ) (t : TicketTable) (row : Row) → IsSound t → row_of t slot ≡ Some row → Keeps row (change row) → is_queued_row (change row) ≡ is_queued row.state → IsSound (with_row change slot t)
sound-with_row change slot t row s there k same =
    sound-put t (with_row change slot t) slot (change row) s (put_by change slot t row there t.queue) (kept_alone t slot row (change row) s there k) (λ q. same_count t slot row (change row) s there same q (eqb q slot) refl)

-- a ticket that leaves its slot, and wasn't queued
pub sound-removed : (slot : ℕ) (t : TicketTable) (row : Row) → IsSound t → row_of t slot ≡ Some row → is_queued row.state ≡ false → IsSound (record t { rows = remove t.rows slot })
sound-removed slot t row s there out =
    sound-put t (record t { rows = remove t.rows slot }) slot None s (λ q. get-put t.rows slot None q) (λ new is. absurd (cc)) (λ q. same_count t slot row None s there (sym out) q (eqb q slot) refl)

absent_count : (t : TicketTable) (slot : ℕ) → IsSound t → row_of t slot ≡ None → count_of slot t.queue ≡ 0
absent_count t slot s free = s.queue slot ∙ ap weight free

pushed_count : (t : TicketTable) (slot : ℕ) (row : Row) → IsSound t → row_of t slot ≡ None → is_queued row.state ≡ true → (q : ℕ) (b : Bool) → eqb q slot ≡ b → count_of q t.queue + cond (eqb slot q) 1 0 ≡ cond b (weight (Some row)) (count_of q t.queue)
pushed_count t slot row s free queued q true e =
    let same : q ≡ slot = eqb-true q slot e in
    let is : eqb slot q ≡ true = eq-eqb slot q (sym same) in
    let none : count_of q t.queue ≡ 0 = ap (λ i. count_of i t.queue) same ∙ absent_count t slot s free in
    rw (is, queued, none) refl
pushed_count t slot row s free queued q false e =
    let other : eqb slot q ≡ false = ne_eqb slot q (λ same. false≢true (sym e ∙ eq-eqb q slot (sym same))) in
    rw other (omega arith)

-- a ticket that is submitted
pub sound-pushed : (slot : ℕ) (t : TicketTable) (row : Row) → IsSound t → row_of t slot ≡ None → is_queued row.state ≡ true → HasNoOpen t row.id → IsSound (record { rows = insert t.rows slot row; queue = t.queue ++ slot ∷ [] })
sound-pushed slot t row s free queued fresh =
    sound-put t (record { rows = insert t.rows slot row; queue = t.queue ++ slot ∷ [] }) slot (Some row) s (λ q. get-put t.rows slot (Some row) q)
    (λ new is opened other h. let same : row ≡ new = cc in absurd (fresh other (subst (λ (r : Row). HasOpen t r.id other) (sym same) h)))
    (λ q. count-push slot t.queue q ∙ pushed_count t slot row s free queued q (eqb q slot) refl)

-- every open ticket stays open where the one that is put in the slot has the id, and is open, of the one that was there
pub keeps-put : (old new : TicketTable) (slot : ℕ) (o : Option Row) → PutAt old new slot o → ((row : Row) → row_of old slot ≡ Some row → IsTrue (is_open row.state) → (next : Row) × (o ≡ Some next) × (next.id ≡ row.id) × IsTrue (is_open next.state)) → KeepsOpen old new
keeps-put old new slot o p stays id q h =
    elim (eqb q slot) as (λ b. eqb q slot ≡ b → HasOpen new id q) [
      | true ↦ λ e.
          let same : q ≡ slot = eqb-true q slot e in
          let next = stays h.row (ap (row_of old) (sym same) ∙ h.there) h.opened in
          record { row = next.0; there = ap (row_of new) same ∙ at_slot old new slot o p ∙ next.1; opened = next.3; named = next.2 ∙ h.named }
      | false ↦ λ e. record { row = h.row; there = elsewhere old new slot o p q e ∙ h.there; opened = h.opened; named = h.named }
    ] refl
