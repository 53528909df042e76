use Rattle.std.proofs.Common.{◌≡◌, sym, ap, ◌∙◌, subst, Option, None}
use Rattle.std.specs.Prelude.{IsSomeAnd, MatchOption}
use Rattle.slab.specs.Slab.{get}
use Rattle.flash_io.specs.Row.{Row}
use Rattle.flash_io.specs.Slots.{if_flying}
use Rattle.flash_io.specs.TicketTable.{asked_row}
use Rattle.flash_io.specs.Answers.{IsAsked}
use Rattle.flash_io.proofs.TableLemmas.{row_of-view, asked-queued}
use Rattle.flash_io.proofs.tickets.Tickets.asked.Goals as goal

pub returns-in-Some : goal.returns-in-Some
returns-in-Some c =
    let same : asked_row c.args.self.now c.args.id c.args.slot ≡ if_flying c.args.id (get c.self.inside.rows c.in-Some.slot) = ap (asked_row c.args.self.now c.args.id) c.in-Some.is ∙ ap (if_flying c.args.id) (row_of-view c.self.inside.rows c.self.inside.queue.items c.args.self.now c.in-Some.slot c.self.view_is) in
    subst (λ (o : Option Row). MatchOption c.asked_flying.result (o ≡ None) (λ asked. IsSomeAnd o (IsAsked asked))) (sym same) c.asked_flying.ensures

pub returns-in-Some-find_id : goal.returns-in-Some-find_id
returns-in-Some-find_id c =
    let same : asked_row c.args.self.now c.args.id c.args.slot ≡ get c.self.inside.rows c.in-Some-find_id.slot = ap (asked_row c.args.self.now c.args.id) c.in-None.is ∙ asked-queued c.self.inside.rows c.self.inside.queue.items c.args.self.now c.args.id c.in-Some-find_id.slot c.self.view_is (sym c.find_id.ensures ∙ c.in-Some-find_id.is) in
    subst (λ (o : Option Row). MatchOption c.asked.result (o ≡ None) (λ asked. IsSomeAnd o (IsAsked asked))) (sym same) c.asked.ensures
