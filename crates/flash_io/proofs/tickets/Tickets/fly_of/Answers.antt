use Rattle.std.proofs.Common.{sym, ap, ◌∙◌, ℕ}
use Rattle.std.specs.Prelude.{IsTrue, IsSomeAnd}
use Rattle.flash_io.specs.States.{is_queued}
use Rattle.flash_io.specs.TicketTable.{TicketTable, table_of, row_of}
use Rattle.flash_io.specs.Answers.{IsJob}
use Rattle.flash_io.specs.Calls.{after, flies}
use Rattle.flash_io.proofs.SoundLemmas.{count-find}
use Rattle.flash_io.proofs.TableLemmas.{Goes, goes-flies, to_view, queued-slab, some_of}
use Rattle.flash_io.proofs.OpenLemmas.{keeps-flies, out-flies}
use Rattle.flash_io.proofs.OpensNoneLemmas.{opens-flies}
use Rattle.flash_io.proofs.tickets.Tickets.fly_of.Goals as goal

pub fly-requires : goal.fly-requires
fly-requires c = queued-slab c.self.inside.rows c.self.inside.queue.items c.in-Some.slot c.self.invariant (count-find _ _ c.in-Some.slot (sym c.take_id.ensures.exact ∙ c.in-Some.is))

flown : (c : goal.After-fly) → Goes (after (flies c.in-Some.slot c.args.reader) (table_of c.self.inside.rows c.self.inside.queue.items)) (table_of c.fly.new.rows c.take_id.new.queue.items)
flown c =
    goes-flies c.in-Some.slot c.args.reader c.self.inside.rows c.fly.new.rows c.self.inside.queue.items c.take_id.new.queue.items c.self.invariant
    (queued-slab c.self.inside.rows c.self.inside.queue.items c.in-Some.slot c.self.invariant (count-find _ _ c.in-Some.slot (sym c.take_id.ensures.exact ∙ c.in-Some.is)))
    c.fly.ensures.after (c.in-Some.ensures.taken)

pub invariant_of-self-in-Some : goal.invariant_of-self-in-Some
invariant_of-self-in-Some c = (flown c).sound

pub returns-in-Some-clause-job : goal.returns-in-Some-clause-job
returns-in-Some-clause-job c = to_view c.self.inside.rows c.self.inside.queue.items c.args.self.now c.in-Some.slot c.fly.result.slot (IsJob c.fly.result) c.self.view_is c.fly.ensures.slot c.fly.ensures.job

pub returns-in-Some-clause-after : goal.returns-in-Some-clause-after
returns-in-Some-clause-after c =
    (flown c).is
    ∙ ap (λ (t : TicketTable). after (flies c.in-Some.slot c.args.reader) t) c.self.view_is
    ∙ ap (λ (n : ℕ). after (flies n c.args.reader) c.args.self.now) (sym c.fly.ensures.slot)

pub returns-in-Some-clause-out : goal.returns-in-Some-clause-out
returns-in-Some-clause-out c = out-flies c.args.reader c.args.self.now _ c.fly.result (returns-in-Some-clause-after c) (returns-in-Some-clause-job c)

pub returns-in-Some-clause-keeps : goal.returns-in-Some-clause-keeps
returns-in-Some-clause-keeps c = keeps-flies c.fly.result.slot c.args.reader c.args.self.now _ (returns-in-Some-clause-after c) (some_of _ (IsJob c.fly.result) (returns-in-Some-clause-job c))

was_queued : (c : goal.After-fly) → IsSomeAnd (row_of c.args.self.now c.fly.result.slot) (λ row. IsTrue (is_queued row.state))
was_queued c =
    to_view c.self.inside.rows c.self.inside.queue.items c.args.self.now c.in-Some.slot c.fly.result.slot (λ row. IsTrue (is_queued row.state)) c.self.view_is c.fly.ensures.slot
    (queued-slab c.self.inside.rows c.self.inside.queue.items c.in-Some.slot c.self.invariant (count-find _ _ c.in-Some.slot (sym c.take_id.ensures.exact ∙ c.in-Some.is)))

pub returns-in-Some-clause-opens : goal.returns-in-Some-clause-opens
returns-in-Some-clause-opens c = opens-flies c.fly.result.slot c.args.reader c.args.self.now _ (returns-in-Some-clause-after c) (was_queued c)
