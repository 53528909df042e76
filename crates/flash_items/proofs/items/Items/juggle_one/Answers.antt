use Rattle.flash_items.proofs.Calls.{joined_juggled, state_juggled}
use Rattle.flash_items.proofs.items.Items.juggle_one.Goals as goal

pub invariant_of-self : goal.invariant_of-self
invariant_of-self c = rw c.juggle_one.ensures.lists (joined_juggled c.self.inside.table c.self.inside.entries c.self.inside.segments c.self.invariant)

pub returns-clause-lists : goal.returns-clause-lists
returns-clause-lists c = rw c.juggle_one.ensures.lists (state_juggled c.self.inside.table c.self.inside.entries c.self.inside.segments c.args.self.now c.self.view_is)
