use Rattle.flash_heads.proofs.Stepping.{not_joined}
use Rattle.flash_heads.proofs.steps.no_value_on_flash_is_joined.Goals as goal

pub returns : goal.returns
returns c = not_joined
