-- The open tickets of other ids, after a call.
use Rattle.std.proofs.Common.{◌≡◌, ℕ, Bool, true, false, cond, eqb, Option, None, Some, sym, ap, ◌∙◌, refl, subst}
use Rattle.std.specs.FinMap.{remove}
use borrow.Author.Tests.{eqb-true}
use Rattle.flash_names.specs.declared.place.Id.{Id}
use Rattle.flash_io.specs.Row.{Row}
use Rattle.flash_io.specs.Slots.{dropped}
use Rattle.flash_io.specs.Queue.{without}
use Rattle.flash_io.specs.TicketTable.{TicketTable, row_of}
use Rattle.flash_io.specs.Sound.{HasOpen, OpensOnly, KeepsOthers}
use Rattle.flash_io.specs.Calls.{submits, forgets, after}
use Rattle.flash_io.proofs.SoundLemmas.{PutAt, at_slot, elsewhere, open_elsewhere, put_by, get-put}

same_row : (one other : Row) → Some one ≡ Some other → one ≡ other
same_row one other e = cc

-- a ticket that is submitted opens none of another id
pub opens-submits : (slot : ℕ) (row : Row) (t new : TicketTable) → new ≡ after (submits slot row) t → OpensOnly row.id t new
opens-submits slot row t new is other q apart h =
    let next : TicketTable = after (submits slot row) t in
    let put : PutAt t next slot (Some row) = λ i. get-put t.rows slot (Some row) i in
    let now : HasOpen next other q = subst (λ (n : TicketTable). HasOpen n other q) is h in
    elim (eqb q slot) as (λ b. eqb q slot ≡ b → HasOpen t other q) [
      | true ↦ λ e.
          let here : row_of next q ≡ Some row = ap (row_of next) (eqb-true q slot e) ∙ at_slot t next slot (Some row) put in
          let same : now.row ≡ row = same_row now.row row (sym now.there ∙ here) in
          absurd (apart (sym now.named ∙ ap (λ (r : Row). r.id) same))
      | false ↦ λ e. open_elsewhere t next slot (Some row) put other q e now
    ] refl

-- a change of the slot of an open ticket leaves those of other ids open
others-put : (id : Id) (t new : TicketTable) (slot : ℕ) (o : Option Row) → PutAt t new slot o → HasOpen t id slot → KeepsOthers id t new
others-put id t new slot o put mine other q apart h =
    elim (eqb q slot) as (λ b. eqb q slot ≡ b → HasOpen new other q) [
      | true ↦ λ e.
          let same : h.row ≡ mine.row = same_row h.row mine.row (sym h.there ∙ ap (row_of t) (eqb-true q slot e) ∙ mine.there) in
          absurd (apart (sym h.named ∙ ap (λ (r : Row). r.id) same ∙ mine.named))
      | false ↦ λ e. record { row = h.row; there = elsewhere t new slot o put q e ∙ h.there; opened = h.opened; named = h.named }
    ] refl

pub others-collects : (id : Id) (slot : ℕ) (t new : TicketTable) (b : Bool) → new ≡ cond b (record t { rows = remove t.rows slot }) t → HasOpen t id slot → KeepsOthers id t new
others-collects id slot t new true is mine =
    subst (λ (n : TicketTable). KeepsOthers id t n) (sym is) (others-put id t (record t { rows = remove t.rows slot }) slot None (λ q. get-put t.rows slot None q) mine)
others-collects id slot t new false is mine = subst (λ (n : TicketTable). KeepsOthers id t n) (sym is) (λ other q apart h. h)

pub others-forgets : (id : Id) (slot : ℕ) (t new : TicketTable) → new ≡ after (forgets slot) t → HasOpen t id slot → KeepsOthers id t new
others-forgets id slot t new is mine =
    subst (λ (n : TicketTable). KeepsOthers id t n) (sym is)
    (others-put id t (after (forgets slot) t) slot (dropped mine.row) (put_by dropped slot t mine.row mine.there (without slot t.queue)) mine)
