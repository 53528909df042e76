use Rattle.flash_actors.specs.Passing.{IsReady}
use Rattle.flash_serve.proofs.job.keep_on.Given as goal

-- the pass is ready for its next turn of the lock
abbrev pub invariant-turns : goal.invariant-turns
invariant-turns g l = IsReady l.store l.pass
