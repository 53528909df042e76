use Rattle.flash_blocks.proofs.CallLemmas.{opening_in_order}
use Rattle.flash_blocks.proofs.laws.each_opening_keeps_order.Goals as goal

pub returns : goal.returns
returns c = opening_in_order
