use Rattle.flash_heads.proofs.Stepping.{number}
use Rattle.flash_heads.proofs.steps.each_head_has_its_number.Goals as goal

pub returns : goal.returns
returns c = number
