use Rattle.flash_heads.proofs.Hiding.{cut_hidden}
use Rattle.flash_heads.proofs.kept.each_removal_is_hidden.Goals as goal

pub returns : goal.returns
returns c = cut_hidden
