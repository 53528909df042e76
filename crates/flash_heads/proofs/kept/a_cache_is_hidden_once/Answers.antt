use Rattle.flash_heads.proofs.Keeping.{hidden_once}
use Rattle.flash_heads.proofs.kept.a_cache_is_hidden_once.Goals as goal

pub returns : goal.returns
returns c = hidden_once
