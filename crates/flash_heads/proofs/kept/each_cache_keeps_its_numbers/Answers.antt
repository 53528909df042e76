use Rattle.flash_heads.proofs.Keeping.{numbers}
use Rattle.flash_heads.proofs.kept.each_cache_keeps_its_numbers.Goals as goal

pub returns : goal.returns
returns c = numbers
