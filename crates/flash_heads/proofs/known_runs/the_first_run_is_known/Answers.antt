use Rattle.flash_heads.proofs.Going.{first_on}
use Rattle.flash_heads.proofs.known_runs.the_first_run_is_known.Goals as goal

pub returns : goal.returns
returns c = first_on
