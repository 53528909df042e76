use Rattle.flash_serve.proofs.Passing.{passes}
use Rattle.flash_serve.proofs.job.Job.serve.Goals as goal

pub serve_session-requires-clause-pass : goal.serve_session-requires-clause-pass
serve_session-requires-clause-pass g c = passes c.deref.result.now c.args.self.pass (rw c.deref.ensures c.args.self.ready)
