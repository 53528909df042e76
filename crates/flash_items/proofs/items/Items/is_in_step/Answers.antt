use Rattle.flash_items.proofs.Closings.{in_step}
use Rattle.flash_items.proofs.items.Items.is_in_step.Goals as goal

pub returns : goal.returns
returns c = in_step c.self.inside.table c.self.inside.entries c.self.inside.segments c.self.invariant c.args.self.now c.self.view_is (λ id. (c.has_one_each.ensures.once id).one)
