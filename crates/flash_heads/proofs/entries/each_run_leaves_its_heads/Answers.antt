use Rattle.flash_heads.proofs.Entering.{runs_left}
use Rattle.flash_heads.proofs.entries.each_run_leaves_its_heads.Goals as goal

pub returns : goal.returns
returns c = runs_left
