use Rattle.std.proofs.Common.{sym, arith}
use Rattle.flash_lru.proofs.Sound.{room}
use Rattle.flash_lru.proofs.Calls.{load_read}
use Rattle.flash_lru.proofs.segments.Segments.load.Goals as goal

pub overflow_add-result : goal.overflow_add-result
overflow_add-result c = omega (arith, room _ _ _ _ c.self.invariant)

pub returns : goal.returns
returns c = sym (load_read _ _ _ _ c.self.inside.memory _ c.self.invariant c.self.view_is)

pub overflow_add-result-2 : goal.overflow_add-result-2
overflow_add-result-2 c = omega (arith, room _ _ _ _ c.self.invariant)
