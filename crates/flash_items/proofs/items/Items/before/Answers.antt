use Rattle.flash_items.proofs.Calls.{has_card}
use Rattle.flash_items.proofs.items.Items.before.Goals as goal

pub before-requires : goal.before-requires
before-requires c = has_card c.self.inside.table c.self.inside.entries c.self.inside.segments c.args.self.now c.self.invariant c.self.view_is c.args.id c.requires
