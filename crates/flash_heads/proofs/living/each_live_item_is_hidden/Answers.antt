use Rattle.flash_heads.proofs.Lives.{live_hidden}
use Rattle.flash_heads.proofs.living.each_live_item_is_hidden.Goals as goal

pub returns : goal.returns
returns c = live_hidden
