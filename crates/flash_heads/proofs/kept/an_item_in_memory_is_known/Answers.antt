use Rattle.flash_heads.proofs.Hiding.{here_is}
use Rattle.flash_heads.proofs.kept.an_item_in_memory_is_known.Goals as goal

pub returns : goal.returns
returns c = here_is
