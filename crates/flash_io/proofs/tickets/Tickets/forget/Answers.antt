use Rattle.std.proofs.Common.{sym, ap, ◌∙◌, subst, refl}
use Rattle.std.specs.Prelude.{IsSome}
use Rattle.flash_io.specs.TicketTable.{TicketTable, table_of}
use Rattle.flash_io.specs.Calls.{after, forgets}
use Rattle.flash_io.proofs.TableLemmas.{Goes, goes-forgets, left-forgotten, open_there}
use Rattle.flash_io.proofs.OpenLemmas.{out-forgets}
use Rattle.flash_io.proofs.OthersLemmas.{others-forgets}
use Rattle.flash_io.proofs.OpensNoneLemmas.{opens-forgets}
use Rattle.flash_io.proofs.tickets.Tickets.forget.Goals as goal

pub index-row-requires : goal.index-row-requires
index-row-requires c = open_there c.self.inside.rows c.self.inside.queue.items c.args.self.now c.args.ticket.id c.args.ticket.slot c.self.view_is c.requires

gone : (c : goal.After-forget) → Goes (after (forgets c.args.ticket.slot) (table_of c.self.inside.rows c.self.inside.queue.items)) (table_of c.forget.new.rows c.take_if.new.queue.items)
gone c =
    goes-forgets c.args.ticket.slot c.self.inside.rows c.forget.new.rows c.self.inside.queue.items c.take_if.new.queue.items c.self.invariant
    (open_there c.self.inside.rows c.self.inside.queue.items c.args.self.now c.args.ticket.id c.args.ticket.slot c.self.view_is c.requires)
    c.forget.ensures
    (left-forgotten c.self.inside.rows c.self.inside.queue.items c.take_if.new.queue.items c.args.ticket.slot c.index-row.result.now c.is_queued-queued.result c.self.invariant c.index-row.ensures c.is_queued-queued.ensures c.take_if.ensures)

pub invariant_of-self : goal.invariant_of-self
invariant_of-self c = (gone c).sound

pub returns-clause-after : goal.returns-clause-after
returns-clause-after c = (gone c).is ∙ ap (λ (t : TicketTable). after (forgets c.args.ticket.slot) t) c.self.view_is

pub returns-clause-out : goal.returns-clause-out
returns-clause-out c = out-forgets c.args.ticket.slot c.args.self.now _ (returns-clause-after c) (subst IsSome (sym c.requires.there) refl)

pub returns-clause-others : goal.returns-clause-others
returns-clause-others c = others-forgets c.args.ticket.id c.args.ticket.slot c.args.self.now _ (returns-clause-after c) c.requires

pub returns-clause-opens : goal.returns-clause-opens
returns-clause-opens c = opens-forgets c.args.ticket.slot c.args.self.now _ (returns-clause-after c) (subst IsSome (sym c.requires.there) refl)
