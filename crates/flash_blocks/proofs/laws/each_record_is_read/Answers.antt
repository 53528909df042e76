use Rattle.flash_blocks.proofs.HeldLemmas.{held_is_read}
use Rattle.flash_blocks.proofs.laws.each_record_is_read.Goals as goal

pub returns : goal.returns
returns c = held_is_read
