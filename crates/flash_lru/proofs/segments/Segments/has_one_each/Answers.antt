use Rattle.std.proofs.Common.{ap, arith}
use Rattle.flash_lru.specs.Lists.{SegmentLists}
use Rattle.flash_lru.proofs.Calls.{law_of}
use Rattle.flash_lru.proofs.segments.Segments.has_one_each.Goals as goal

pub returns-clause-once : goal.returns-clause-once
returns-clause-once c = λ item. law_of _ _ _ _ c.self.inside.memory item _ c.self.invariant c.self.view_is

pub returns-clause-few : goal.returns-clause-few
returns-clause-few c = omega (arith, c.self.invariant.short, ap (λ (l : SegmentLists). l.spare) c.self.view_is)
