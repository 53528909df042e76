use Rattle.flash_blocks.proofs.CallLemmas.{call_one}
use Rattle.flash_blocks.proofs.laws.each_call_keeps_one.Goals as goal

pub returns : goal.returns
returns c = call_one
