use Rattle.flash_index.proofs.Closings.{reserved}
use Rattle.flash_index.proofs.MarkCalls.{after_reserve}
use Rattle.flash_index.proofs.index.Index.reserve_one.Goals as goal

pub returns-clause-same : goal.returns-clause-same
returns-clause-same c = reserved c.self.inside.items c.args.self.now c.self.view_is c.reserve_one.new.self c.reserve_one.ensures.ids c.reserve_one.ensures.items c.reserve_one.ensures.lists

pub invariant_of-self : goal.invariant_of-self
invariant_of-self c = after_reserve c.self.inside.marks c.self.inside.items c.self.invariant c.reserve_one.new.self c.reserve_one.ensures.items c.reserve_one.ensures.lists
