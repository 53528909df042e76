use Rattle.std.proofs.Common.{◌≡◌, sym, ap, ◌∙◌, subst, Some, refl}
use Rattle.slab.specs.Slab.{get, Updates}
use Rattle.flash_io.specs.Row.{Row, first_row}
use Rattle.flash_io.specs.TicketTable.{TicketTable, table_of}
use Rattle.flash_io.specs.Calls.{after, submits}
use Rattle.flash_io.specs.Sound.{HasNoOpen}
use Rattle.flash_io.proofs.TableLemmas.{Goes, row_of-view, goes-submit}
use Rattle.flash_io.proofs.OpenLemmas.{open-submits, keeps-submits}
use Rattle.flash_io.proofs.OthersLemmas.{opens-submits}
use Rattle.flash_io.proofs.tickets.Tickets.submit.Goals as goal

submitted : (c : goal.After-push_back_reserved) → Goes (after (submits c.add-slot.result (first_row c.args.id c.args.key.now c.args.place c.args.head c.args.recache)) (table_of c.self.inside.rows c.self.inside.queue.items)) (table_of c.add-slot.new.rows c.push_back_reserved.new.self.items)
submitted c =
    let row : Row = first_row c.args.id c.args.key.now c.args.place c.args.head c.args.recache in
    let is_row : c.in_ok-row.row ≡ row = c.in_ok-row.ensures in
    goes-submit c.add-slot.result row c.self.inside.rows c.reserve-2.new.self c.add-slot.new.rows c.self.inside.queue.items c.reserve.new.self.items c.push_back_reserved.new.self.items
    c.reserve-2.ensures.rest_kept c.reserve.ensures.items c.push_back_reserved.ensures.items c.self.invariant c.add-slot.ensures.free refl
    (subst (λ (t : TicketTable). HasNoOpen t c.args.id) (sym c.self.view_is) c.requires)
    (subst (λ (r : Row). Updates c.reserve-2.new.self c.add-slot.new.rows c.add-slot.result (Some r)) is_row c.add-slot.ensures.after)

pub invariant_of-self-2 : goal.invariant_of-self-2
invariant_of-self-2 c = (submitted c).sound

pub returns-clause-free : goal.returns-clause-free
returns-clause-free c =
    row_of-view c.self.inside.rows c.self.inside.queue.items c.args.self.now c.add-slot.result c.self.view_is
    ∙ sym (ap (λ s. get s c.add-slot.result) c.reserve-2.ensures.rest_kept) ∙ c.add-slot.ensures.free

pub returns-clause-after : goal.returns-clause-after
returns-clause-after c = (submitted c).is ∙ ap (λ (t : TicketTable). after (submits c.add-slot.result (first_row c.args.id c.args.key.now c.args.place c.args.head c.args.recache)) t) c.self.view_is

pub returns-clause-opened : goal.returns-clause-opened
returns-clause-opened c = open-submits c.add-slot.result (first_row c.args.id c.args.key.now c.args.place c.args.head c.args.recache) c.args.self.now _ (returns-clause-after c) refl

pub returns-clause-keeps : goal.returns-clause-keeps
returns-clause-keeps c = keeps-submits c.add-slot.result (first_row c.args.id c.args.key.now c.args.place c.args.head c.args.recache) c.args.self.now _ (returns-clause-after c) (returns-clause-free c)

pub returns-clause-opens : goal.returns-clause-opens
returns-clause-opens c = opens-submits c.add-slot.result (first_row c.args.id c.args.key.now c.args.place c.args.head c.args.recache) c.args.self.now _ (returns-clause-after c)
