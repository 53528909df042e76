use Rattle.std.proofs.Common.{sym, ap, ◌∙◌, ℕ}
use Rattle.std.specs.Prelude.{IsTrue, IsSomeAnd}
use Rattle.flash_io.specs.States.{is_queued}
use Rattle.flash_io.specs.TicketTable.{TicketTable, table_of, row_of}
use Rattle.flash_io.specs.Answers.{IsJob}
use Rattle.flash_io.specs.Calls.{after, flies}
use Rattle.flash_io.proofs.QueueLemmas.{popped, count-popped}
use Rattle.flash_io.proofs.TableLemmas.{Goes, goes-flies, to_view, queued-slab, some_of}
use Rattle.flash_io.proofs.OpenLemmas.{keeps-flies, out-flies}
use Rattle.flash_io.proofs.OpensNoneLemmas.{opens-flies}
use Rattle.flash_io.proofs.tickets.Tickets.fly.Goals as goal

pub fly-requires : goal.fly-requires
fly-requires c = queued-slab c.self.inside.rows c.self.inside.queue.items c.in-Some.slot c.self.invariant (count-popped _ _ c.pop_front.result c.in-Some.slot c.pop_front.ensures.items c.in-Some.is)

flown : (c : goal.After-fly) → Goes (after (flies c.in-Some.slot c.args.reader) (table_of c.self.inside.rows c.self.inside.queue.items)) (table_of c.fly.new.rows c.pop_front.new.self.items)
flown c =
    goes-flies c.in-Some.slot c.args.reader c.self.inside.rows c.fly.new.rows c.self.inside.queue.items c.pop_front.new.self.items c.self.invariant
    (queued-slab c.self.inside.rows c.self.inside.queue.items c.in-Some.slot c.self.invariant (count-popped _ _ c.pop_front.result c.in-Some.slot c.pop_front.ensures.items c.in-Some.is))
    c.fly.ensures.after (popped _ _ c.pop_front.result c.in-Some.slot c.pop_front.ensures.items c.in-Some.is)

pub invariant_of-self : goal.invariant_of-self
invariant_of-self c = (flown c).sound

pub returns-clause-job : goal.returns-clause-job
returns-clause-job c = to_view c.self.inside.rows c.self.inside.queue.items c.args.self.now c.in-Some.slot c.fly.result.slot (IsJob c.fly.result) c.self.view_is c.fly.ensures.slot c.fly.ensures.job

pub returns-clause-after : goal.returns-clause-after
returns-clause-after c =
    (flown c).is
    ∙ ap (λ (t : TicketTable). after (flies c.in-Some.slot c.args.reader) t) c.self.view_is
    ∙ ap (λ (n : ℕ). after (flies n c.args.reader) c.args.self.now) (sym c.fly.ensures.slot)

pub returns-clause-out : goal.returns-clause-out
returns-clause-out c = out-flies c.args.reader c.args.self.now _ c.fly.result (returns-clause-after c) (returns-clause-job c)

pub returns-clause-keeps : goal.returns-clause-keeps
returns-clause-keeps c = keeps-flies c.fly.result.slot c.args.reader c.args.self.now _ (returns-clause-after c) (some_of _ (IsJob c.fly.result) (returns-clause-job c))

was_queued : (c : goal.After-fly) → IsSomeAnd (row_of c.args.self.now c.fly.result.slot) (λ row. IsTrue (is_queued row.state))
was_queued c =
    to_view c.self.inside.rows c.self.inside.queue.items c.args.self.now c.in-Some.slot c.fly.result.slot (λ row. IsTrue (is_queued row.state)) c.self.view_is c.fly.ensures.slot
    (queued-slab c.self.inside.rows c.self.inside.queue.items c.in-Some.slot c.self.invariant (count-popped _ _ c.pop_front.result c.in-Some.slot c.pop_front.ensures.items c.in-Some.is))

pub returns-clause-opens : goal.returns-clause-opens
returns-clause-opens c = opens-flies c.fly.result.slot c.args.reader c.args.self.now _ (returns-clause-after c) (was_queued c)
