use Rattle.flash_lru.proofs.Calls.{grows}
use Rattle.flash_lru.proofs.segments.Segments.reserve_one.Goals as goal

pub invariant_of-self : goal.invariant_of-self
invariant_of-self c = (grows _ _ _ _ c.self.inside.memory _ c.self.invariant c.self.view_is _ c.grow.ensures.grows c.grow.ensures.short c.grow.ensures.same).sound

pub returns-clause-lists : goal.returns-clause-lists
returns-clause-lists c = (grows _ _ _ _ c.self.inside.memory _ c.self.invariant c.self.view_is _ c.grow.ensures.grows c.grow.ensures.short c.grow.ensures.same).view
