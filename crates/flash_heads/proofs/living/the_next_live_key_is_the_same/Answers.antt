use Rattle.flash_heads.proofs.Lives.{next_keys}
use Rattle.flash_heads.proofs.living.the_next_live_key_is_the_same.Goals as goal

pub returns : goal.returns
returns c = next_keys
