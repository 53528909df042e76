use Rattle.std.proofs.Common.{sym, ap, ◌∙◌, Some}
use Rattle.std.specs.Prelude.{IsTrue}
use Rattle.flash_io.specs.States.{is_queued}
use Rattle.flash_io.proofs.SoundLemmas.{count-first}
use Rattle.flash_io.proofs.TableLemmas.{queued-slab, some_of, next-view}
use Rattle.flash_io.proofs.tickets.Tickets.next.Goals as goal

pub index-row-requires : goal.index-row-requires
index-row-requires c = some_of _ (λ row. IsTrue (is_queued row.state)) (queued-slab c.self.inside.rows c.self.inside.queue.items c.in_ok-slot.slot c.self.invariant (count-first c.self.inside.queue.items c.in_ok-slot.slot (sym c.first.ensures ∙ c.in_ok-slot.was)))

pub returns-clause-exact : goal.returns-clause-exact
returns-clause-exact c = ap Some c.id.ensures ∙ sym (next-view c.self.inside.rows c.self.inside.queue.items c.args.self.now c.in_ok-slot.slot c.index-row.result.now c.self.view_is (sym c.first.ensures ∙ c.in_ok-slot.was) c.index-row.ensures)
