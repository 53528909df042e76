use Rattle.flash_heads.proofs.Ruling.{meets}
use Rattle.flash_heads.proofs.rules.each_entry_meets_alike.Goals as goal

pub returns : goal.returns
returns c = meets
