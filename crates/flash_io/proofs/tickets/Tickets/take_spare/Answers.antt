use Rattle.std.proofs.Common.{◌≡◌, sym, ap, ◌∙◌, subst, length, Option, refl}
use Rattle.std.specs.Prelude.{IsSomeAnd, IfSome}
use Rattle.slab.specs.Slab.{get}
use Rattle.flash_io.specs.Row.{Row}
use Rattle.flash_io.specs.Slots.{has_spare}
use Rattle.flash_io.specs.TicketTable.{TicketTable, table_of, row_of}
use Rattle.flash_io.specs.Calls.{after, takes_spare}
use Rattle.flash_io.proofs.TableLemmas.{Goes, goes-take_spare, row_of-view}
use Rattle.flash_io.proofs.OpenLemmas.{keeps-takes, out-takes}
use Rattle.flash_io.proofs.OpensNoneLemmas.{opens-takes}
use Rattle.flash_io.proofs.tickets.Tickets.take_spare.Goals as goal

taken : (c : goal.After-take_spare) → Goes (after (takes_spare c.args.slot) (table_of c.self.inside.rows c.self.inside.queue.items)) (table_of c.take_spare.new.rows c.self.inside.queue.items)
taken c =
    goes-take_spare c.args.slot c.self.inside.rows c.take_spare.new.rows c.self.inside.queue.items c.take_spare.result c.self.invariant
    c.take_spare.ensures.there c.take_spare.ensures.taken c.take_spare.ensures.none

pub invariant_of-self : goal.invariant_of-self
invariant_of-self c = (taken c).sound

pub returns-clause-there : goal.returns-clause-there
returns-clause-there c = c.take_spare.ensures.there ∙ ap has_spare (sym (row_of-view c.self.inside.rows c.self.inside.queue.items c.args.self.now c.args.slot c.self.view_is))

pub returns-clause-whole : goal.returns-clause-whole
returns-clause-whole c =
    let same : row_of c.args.self.now c.args.slot ≡ get c.self.inside.rows c.args.slot = row_of-view c.self.inside.rows c.self.inside.queue.items c.args.self.now c.args.slot c.self.view_is in
    subst (λ (o : Option Row). IfSome c.take_spare.result (λ bytes. IsSomeAnd o (λ row. length bytes ≡ row.head.size))) (sym same) c.take_spare.ensures.whole

pub returns-clause-after : goal.returns-clause-after
returns-clause-after c = (taken c).is ∙ ap (λ (t : TicketTable). after (takes_spare c.args.slot) t) c.self.view_is

pub returns-clause-keeps : goal.returns-clause-keeps
returns-clause-keeps c = keeps-takes c.args.slot c.args.self.now _ (has_spare (row_of c.args.self.now c.args.slot)) refl (returns-clause-after c)

pub returns-clause-out : goal.returns-clause-out
returns-clause-out c = out-takes c.args.slot c.args.self.now _ (has_spare (row_of c.args.self.now c.args.slot)) refl (returns-clause-after c)

pub returns-clause-opens : goal.returns-clause-opens
returns-clause-opens c = opens-takes c.args.slot c.args.self.now _ (has_spare (row_of c.args.self.now c.args.slot)) refl (returns-clause-after c)
