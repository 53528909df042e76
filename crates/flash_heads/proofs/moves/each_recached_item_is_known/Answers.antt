use Rattle.flash_heads.proofs.Moving.{recached}
use Rattle.flash_heads.proofs.moves.each_recached_item_is_known.Goals as goal

pub returns : goal.returns
returns c = recached
