use Rattle.std.proofs.Common.{sym, ◌∙◌, eq-eqb}
use borrow.Author.Tests.{eqb-true}
use Rattle.slab.specs.Slab.{slab_len}
use Rattle.flash_io.proofs.TableLemmas.{nothing-kept, nothing-there}
use Rattle.flash_io.proofs.tickets.Tickets.is_empty.Goals as goal

pub returns : goal.returns
returns c = (
  (λ h. sym c.self.view_is ∙ nothing-kept c.self.inside.rows c.self.inside.queue.items c.self.invariant (eqb-true (slab_len c.self.inside.rows) 0 (sym c.is_empty.ensures ∙ h))),
  (λ e. c.is_empty.ensures ∙ eq-eqb (slab_len c.self.inside.rows) 0 (nothing-there c.self.inside.rows c.self.inside.queue.items (c.self.view_is ∙ e))),
)
