use Rattle.std.proofs.Common.{ap, ◌∙◌}
use Rattle.std.specs.Prelude.{IsTrue}
use Rattle.flash_io.specs.States.{is_flying}
use Rattle.flash_io.specs.TicketTable.{TicketTable, table_of}
use Rattle.flash_io.specs.Answers.{IsFlyingAs}
use Rattle.flash_io.specs.Calls.{after, ends}
use Rattle.flash_io.proofs.TableLemmas.{Goes, over_closed, goes-ends, from_view, some_of, and_weaker}
use Rattle.flash_io.proofs.OpenLemmas.{keeps-ends}
use Rattle.flash_io.proofs.OpensNoneLemmas.{opens-ends}
use Rattle.flash_io.proofs.tickets.Tickets.land.Goals as goal

pub land-requires-clause-there : goal.land-requires-clause-there
land-requires-clause-there c = some_of _ (IsFlyingAs c.args.job) (from_view c.self.inside.rows c.self.inside.queue.items c.args.self.now c.args.job.slot (IsFlyingAs c.args.job) c.self.view_is c.requires.out)

landed : (c : goal.After-land) → Goes (after (ends c.args.job.slot c.args.state) (table_of c.self.inside.rows c.self.inside.queue.items)) (table_of c.land.new.rows c.self.inside.queue.items)
landed c =
    goes-ends c.args.job.slot c.args.state c.self.inside.rows c.land.new.rows c.self.inside.queue.items (over_closed c.args.state c.requires.over) c.self.invariant
    (and_weaker _ (IsFlyingAs c.args.job) (λ row. IsTrue (is_flying row.state)) (λ row h. h.flying) (from_view c.self.inside.rows c.self.inside.queue.items c.args.self.now c.args.job.slot (IsFlyingAs c.args.job) c.self.view_is c.requires.out))
    c.land.ensures

pub invariant_of-self : goal.invariant_of-self
invariant_of-self c = (landed c).sound

pub returns-clause-after : goal.returns-clause-after
returns-clause-after c = (landed c).is ∙ ap (λ (t : TicketTable). after (ends c.args.job.slot c.args.state) t) c.self.view_is

pub land-requires-clause-state : goal.land-requires-clause-state
land-requires-clause-state c = over_closed c.args.state c.requires.over

pub returns-clause-keeps : goal.returns-clause-keeps
returns-clause-keeps c = keeps-ends c.args.job.slot c.args.state c.args.self.now _ (returns-clause-after c) c.requires.over (some_of _ (IsFlyingAs c.args.job) c.requires.out)

pub returns-clause-opens : goal.returns-clause-opens
returns-clause-opens c = opens-ends c.args.job.slot c.args.state c.args.self.now _ (returns-clause-after c) (some_of _ (IsFlyingAs c.args.job) c.requires.out)
