use Rattle.flash_blocks.proofs.CallLemmas.{call_in_order}
use Rattle.flash_blocks.proofs.laws.each_call_keeps_order.Goals as goal

pub returns : goal.returns
returns c = call_in_order
