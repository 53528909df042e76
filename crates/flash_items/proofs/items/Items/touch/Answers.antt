use Rattle.flash_items.proofs.Calls.{has_card, joined_touched}
use Rattle.flash_items.proofs.items.Items.touch.Goals as goal

pub touch-requires : goal.touch-requires
touch-requires c = has_card c.self.inside.table c.self.inside.entries c.self.inside.segments c.args.self.now c.self.invariant c.self.view_is c.args.id c.requires

pub invariant_of-self : goal.invariant_of-self
invariant_of-self c = rw c.touch.ensures (joined_touched c.self.inside.table c.self.inside.entries c.self.inside.segments c.args.id c.self.invariant)
