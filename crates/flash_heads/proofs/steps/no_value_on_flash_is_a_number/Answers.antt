use Rattle.flash_heads.proofs.Stepping.{no_number}
use Rattle.flash_heads.proofs.steps.no_value_on_flash_is_a_number.Goals as goal

pub returns : goal.returns
returns c = no_number
