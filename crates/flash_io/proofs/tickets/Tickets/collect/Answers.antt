use Rattle.std.proofs.Common.{◌≡◌, ap, ◌∙◌, sym, subst, refl}
use Rattle.std.specs.Prelude.{IsSome}
use Rattle.flash_io.specs.Slots.{is_over_row}
use Rattle.flash_io.specs.TicketTable.{TicketTable, table_of, row_of}
use Rattle.flash_io.specs.Answers.{answer_of}
use Rattle.flash_io.specs.Calls.{after, collects}
use Rattle.flash_io.proofs.TableLemmas.{Goes, goes-collect, to_view, open_there}
use Rattle.flash_io.proofs.OthersLemmas.{others-collects}
use Rattle.flash_io.proofs.OpensNoneLemmas.{opens-collects}
use Rattle.flash_io.proofs.tickets.Tickets.collect.Goals as goal

pub collect-requires : goal.collect-requires
collect-requires c = open_there c.self.inside.rows c.self.inside.queue.items c.args.self.now c.args.ticket.id c.args.ticket.slot c.self.view_is c.requires

taken : (c : goal.After-collect) → Goes (after (collects c.args.ticket.slot) (table_of c.self.inside.rows c.self.inside.queue.items)) (table_of c.collect.new.rows c.self.inside.queue.items)
taken c =
    goes-collect c.args.ticket.slot c.self.inside.rows c.collect.new.rows c.self.inside.queue.items _ refl c.self.invariant
    c.collect.ensures.over c.collect.ensures.other

pub invariant_of-self : goal.invariant_of-self
invariant_of-self c = (taken c).sound

pub returns-clause-told : goal.returns-clause-told
returns-clause-told c = to_view c.self.inside.rows c.self.inside.queue.items c.args.self.now c.args.ticket.slot c.args.ticket.slot (λ row. c.collect.result ≡ answer_of c.args.ticket row.state) c.self.view_is refl c.collect.ensures.told

pub returns-clause-after : goal.returns-clause-after
returns-clause-after c = (taken c).is ∙ ap (λ (t : TicketTable). after (collects c.args.ticket.slot) t) c.self.view_is

pub returns-clause-others : goal.returns-clause-others
returns-clause-others c = others-collects c.args.ticket.id c.args.ticket.slot c.args.self.now _ (is_over_row (row_of c.args.self.now c.args.ticket.slot)) (returns-clause-after c) c.requires

pub returns-clause-opens : goal.returns-clause-opens
returns-clause-opens c = opens-collects c.args.ticket.slot c.args.self.now _ (is_over_row (row_of c.args.self.now c.args.ticket.slot)) (returns-clause-after c) (subst IsSome (sym c.requires.there) refl)
