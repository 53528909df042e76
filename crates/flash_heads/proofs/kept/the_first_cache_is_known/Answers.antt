use Rattle.flash_heads.proofs.Keeping.{first_known}
use Rattle.flash_heads.proofs.kept.the_first_cache_is_known.Goals as goal

pub returns : goal.returns
returns c = first_known
