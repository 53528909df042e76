use Rattle.flash_heads.proofs.Keeping.{cas_numbers}
use Rattle.flash_heads.proofs.kept.each_cache_keeps_its_cas_numbers.Goals as goal

pub returns : goal.returns
returns c = cas_numbers
