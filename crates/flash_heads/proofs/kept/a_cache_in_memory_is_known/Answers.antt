use Rattle.flash_heads.proofs.Keeping.{in_memory}
use Rattle.flash_heads.proofs.kept.a_cache_in_memory_is_known.Goals as goal

pub returns : goal.returns
returns c = in_memory
