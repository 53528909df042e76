use Rattle.flash_heads.proofs.Keeping.{sized}
use Rattle.flash_heads.proofs.kept.each_item_keeps_its_size.Goals as goal

pub returns : goal.returns
returns c = sized
