use Rattle.flash_serve.proofs.Passing.{passes}
use Rattle.flash_serve.proofs.job.Keeper.keep.Goals as goal

pub keep_on-requires-clause-pass : goal.keep_on-requires-clause-pass
keep_on-requires-clause-pass g c = passes c.deref.result.now c.args.self.pass (rw c.deref.ensures c.args.self.ready)
