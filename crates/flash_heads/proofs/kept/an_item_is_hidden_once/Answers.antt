use Rattle.flash_heads.proofs.Hiding.{once}
use Rattle.flash_heads.proofs.kept.an_item_is_hidden_once.Goals as goal

pub returns : goal.returns
returns c = once
