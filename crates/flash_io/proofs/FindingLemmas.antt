-- The search of the queue by an id.
use Rattle.std.proofs.Common.{◌≡◌, ℕ, ◌+◌, ◌<◌, Bool, true, false, cond, eqb, List, [], ◌∷◌, Option, None, Some, sym, ap, ◌∙◌, refl, arith}
use Rattle.std.specs.Prelude.{IsTrue, IsSomeAnd, find}
use Rattle.std.proofs.lemmas.Bool.{false≢true}
use borrow.Author.Tests.{eqb-true}
use Rattle.flash_names.specs.declared.place.Id.{Id}
use Rattle.flash_io.specs.States.{is_queued}
use Rattle.flash_io.specs.Row.{Row}
use Rattle.flash_io.specs.Slots.{has_id, is_queued_row}
use Rattle.flash_io.specs.Queue.{count_of}
use Rattle.flash_io.specs.TicketTable.{TicketTable, row_of, queued_with}
use Rattle.flash_io.specs.Sound.{IsSound}
use Rattle.flash_io.specs.Finding.{IsQueuedAs, IsFinding}
use Rattle.flash_io.proofs.SoundLemmas.{queued-in, count-find}

-- what is found passes
passes : (p : ℕ → Bool) (xs : List ℕ) (slot : ℕ) → find p xs ≡ Some slot → p slot ≡ true
passes p [] slot e = absurd (cc)
passes p (x ∷ xs) slot e =
    elim (p x) as (λ b. p x ≡ b → cond b (Some x) (find p xs) ≡ Some slot → p slot ≡ true) [
      | true ↦ λ good found. let same : x ≡ slot = cc in ap p (sym same) ∙ good
      | false ↦ λ bad found. passes p xs slot found
    ] refl e

-- where none is found, no slot of the queue passes
fails : (p : ℕ → Bool) (xs : List ℕ) (slot : ℕ) → find p xs ≡ None → 0 < count_of slot xs → p slot ≡ false
fails p [] slot e h = absurd (omega arith)
fails p (x ∷ xs) slot e h =
    elim (p x) as (λ b. p x ≡ b → cond b (Some x) (find p xs) ≡ None → p slot ≡ false) [
      | true ↦ λ good found. absurd (cc)
      | false ↦ λ bad found. elim (eqb x slot) as (λ b. eqb x slot ≡ b → 0 < cond b 1 0 + count_of slot xs → p slot ≡ false) [
        | true ↦ λ same some. ap p (sym (eqb-true x slot same)) ∙ bad
        | false ↦ λ other some. fails p xs slot found (omega arith)
      ] refl h
    ] refl e

queued_as : (id : Id) (o : Option Row) → IsSomeAnd o (λ row. IsTrue (is_queued row.state)) → has_id id o ≡ true → IsSomeAnd o (IsQueuedAs id)
queued_as id None h e = absurd h
queued_as id (Some row) h e = record { queued = h; named = e }

has_it : (id : Id) (o : Option Row) → IsSomeAnd o (IsQueuedAs id) → has_id id o ≡ true
has_it id None h = absurd h
has_it id (Some row) h = h.named

weighs : (id : Id) (o : Option Row) → IsSomeAnd o (IsQueuedAs id) → cond {A = ℕ} (is_queued_row o) 1 0 ≡ 1
weighs id None h = absurd h
weighs id (Some row) h = ap (λ b. cond {A = ℕ} b 1 0) h.queued

found_by : (t : TicketTable) (id : Id) (o : Option ℕ) → IsSound t → queued_with t id ≡ o → IsFinding t id o
found_by t id None s e = λ slot h.
    let counted : count_of slot t.queue ≡ 1 = s.queue slot ∙ weighs id (row_of t slot) h in
    let bad : has_id id (row_of t slot) ≡ false = fails (λ n. has_id id (row_of t n)) t.queue slot e (omega (arith, counted)) in
    false≢true (sym bad ∙ has_it id (row_of t slot) h)
found_by t id (Some slot) s e =
    queued_as id (row_of t slot) (queued-in t slot s (count-find (λ n. has_id id (row_of t n)) t.queue slot e)) (passes (λ n. has_id id (row_of t n)) t.queue slot e)

-- the search finds a queued ticket with the id exactly where there is one
pub finding : (t : TicketTable) (id : Id) → IsSound t → IsFinding t id (queued_with t id)
finding t id s = found_by t id (queued_with t id) s refl
