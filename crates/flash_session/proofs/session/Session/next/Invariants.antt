use Rattle.std.proofs.Common.{length}
use Rattle.flash_session.specs.Todos.{HasReadOn}
use Rattle.flash_session.proofs.session.Session.next.Given as goal

abbrev pub invariant-fronts : goal.invariant-fronts
invariant-fronts l = HasReadOn l.fn.self l.self

abbrev pub decreases-fronts : goal.decreases-fronts
decreases-fronts l = length l.self.reads.reader.unread
