use Rattle.flash_calls.proofs.Starting.{first_runs}
use Rattle.flash_calls.proofs.laws.the_first_run.Goals as goal

pub returns : goal.returns
returns c = λ g passes. first_runs g c.laws_below.ensures passes
