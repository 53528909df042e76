use Rattle.std.proofs.Common.{◌≡◌, sym, ap, ◌∙◌, Some, refl}
use Rattle.std.specs.Prelude.{IsTrue, IsSomeAnd}
use Rattle.flash_entry.specs.declared.found.Closed.TheVariants.{Lost}
use Rattle.flash_entry.specs.declared.found.Cause.TheVariants.{Ended}
use Rattle.flash_io.specs.declared.row.State.TheVariants.{Done}
use Rattle.flash_io.specs.States.{is_queued}
use Rattle.flash_io.specs.TicketTable.{TicketTable, table_of, row_of, queued_with}
use Rattle.flash_io.specs.Calls.{after, loses}
use Rattle.flash_io.proofs.SoundLemmas.{count-find}
use Rattle.flash_io.proofs.TableLemmas.{Goes, goes-loses, to_view, queued-slab, some_of}
use Rattle.flash_io.proofs.OpenLemmas.{keeps-closes}
use Rattle.flash_io.proofs.OpensNoneLemmas.{opens-closes}
use Rattle.flash_io.proofs.tickets.Tickets.lose.Goals as goal

pub end-requires-clause-there : goal.end-requires-clause-there
end-requires-clause-there c = some_of _ (λ row. IsTrue (is_queued row.state)) (queued-slab c.self.inside.rows c.self.inside.queue.items c.in-Some.slot c.self.invariant (count-find _ _ c.in-Some.slot (sym c.take_id.ensures.exact ∙ c.in-Some.is)))

lost : (c : goal.After-end) → Goes (after (loses c.in-Some.slot) (table_of c.self.inside.rows c.self.inside.queue.items)) (table_of c.end.new.rows c.take_id.new.queue.items)
lost c =
    goes-loses (Done (Lost Ended)) c.in-Some.slot c.self.inside.rows c.end.new.rows c.self.inside.queue.items c.take_id.new.queue.items refl c.self.invariant
    (queued-slab c.self.inside.rows c.self.inside.queue.items c.in-Some.slot c.self.invariant (count-find _ _ c.in-Some.slot (sym c.take_id.ensures.exact ∙ c.in-Some.is)))
    c.end.ensures c.in-Some.ensures.taken

pub invariant_of-self : goal.invariant_of-self
invariant_of-self c = (lost c).sound

found : (c : goal.After-end) → queued_with c.args.self.now c.args.id ≡ Some c.in-Some.slot
found c = ap (λ (t : TicketTable). queued_with t c.args.id) (sym c.self.view_is) ∙ sym c.take_id.ensures.exact ∙ c.in-Some.is

lost_now : (c : goal.After-end) → table_of c.end.new.rows c.take_id.new.queue.items ≡ after (loses c.in-Some.slot) c.args.self.now
lost_now c = (lost c).is ∙ ap (λ (t : TicketTable). after (loses c.in-Some.slot) t) c.self.view_is

pub returns-clause-after : goal.returns-clause-after
returns-clause-after c = rw (found c) (lost_now c)

was_queued : (c : goal.After-end) → IsSomeAnd (row_of c.args.self.now c.in-Some.slot) (λ row. IsTrue (is_queued row.state))
was_queued c =
    to_view c.self.inside.rows c.self.inside.queue.items c.args.self.now c.in-Some.slot c.in-Some.slot (λ row. IsTrue (is_queued row.state)) c.self.view_is refl
    (queued-slab c.self.inside.rows c.self.inside.queue.items c.in-Some.slot c.self.invariant (count-find _ _ c.in-Some.slot (sym c.take_id.ensures.exact ∙ c.in-Some.is)))

pub returns-clause-keeps : goal.returns-clause-keeps
returns-clause-keeps c =
    keeps-closes (Lost Ended) c.in-Some.slot c.args.self.now (table_of c.end.new.rows c.take_id.new.queue.items) (lost_now c) (some_of _ (λ row. IsTrue (is_queued row.state)) (was_queued c))

pub returns-clause-opens : goal.returns-clause-opens
returns-clause-opens c = opens-closes (Lost Ended) c.in-Some.slot c.args.self.now (table_of c.end.new.rows c.take_id.new.queue.items) (lost_now c) (was_queued c)
