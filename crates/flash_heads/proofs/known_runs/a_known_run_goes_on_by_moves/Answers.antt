use Rattle.flash_heads.proofs.Going.{moved_on}
use Rattle.flash_heads.proofs.known_runs.a_known_run_goes_on_by_moves.Goals as goal

pub returns : goal.returns
returns c = moved_on
