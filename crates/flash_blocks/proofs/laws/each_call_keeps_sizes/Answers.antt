use Rattle.flash_blocks.proofs.CallLemmas.{call_sizes}
use Rattle.flash_blocks.proofs.laws.each_call_keeps_sizes.Goals as goal

pub returns : goal.returns
returns c = call_sizes
