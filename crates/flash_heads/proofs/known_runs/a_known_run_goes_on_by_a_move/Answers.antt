use Rattle.flash_heads.proofs.Going.{move_on}
use Rattle.flash_heads.proofs.known_runs.a_known_run_goes_on_by_a_move.Goals as goal

pub returns : goal.returns
returns c = move_on
