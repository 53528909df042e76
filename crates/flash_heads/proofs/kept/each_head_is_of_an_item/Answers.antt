use Rattle.flash_heads.proofs.Keeping.{head_of_item}
use Rattle.flash_heads.proofs.kept.each_head_is_of_an_item.Goals as goal

pub returns : goal.returns
returns c = head_of_item
