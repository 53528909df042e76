use Rattle.flash_heads.proofs.Going.{legal_alike}
use Rattle.flash_heads.proofs.rules.each_run_is_legal_alike.Goals as goal

pub returns : goal.returns
returns c = legal_alike
