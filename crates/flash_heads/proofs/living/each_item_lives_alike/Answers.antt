use Rattle.flash_heads.proofs.Lives.{lives}
use Rattle.flash_heads.proofs.living.each_item_lives_alike.Goals as goal

pub returns : goal.returns
returns c = lives
