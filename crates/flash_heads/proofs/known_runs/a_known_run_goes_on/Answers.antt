use Rattle.flash_heads.proofs.Going.{known_on}
use Rattle.flash_heads.proofs.known_runs.a_known_run_goes_on.Goals as goal

pub returns : goal.returns
returns c = known_on
