use Rattle.flash_blocks.proofs.HeldLemmas.{stays_held}
use Rattle.flash_blocks.proofs.laws.each_record_stays.Goals as goal

pub returns : goal.returns
returns c = stays_held
