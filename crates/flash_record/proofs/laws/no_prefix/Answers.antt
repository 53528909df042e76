use Rattle.flash_record.proofs.Offsets.{no_prefix}
use Rattle.flash_record.proofs.laws.no_prefix.Goals as goal

pub returns : goal.returns
returns c = no_prefix
