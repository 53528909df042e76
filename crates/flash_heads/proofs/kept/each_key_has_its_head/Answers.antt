use Rattle.flash_heads.proofs.Hiding.{get_hidden}
use Rattle.flash_heads.proofs.kept.each_key_has_its_head.Goals as goal

pub returns : goal.returns
returns _ = λ c. get_hidden c.items
