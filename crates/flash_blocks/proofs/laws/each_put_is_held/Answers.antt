use Rattle.flash_blocks.proofs.PutLemmas.{is_put}
use Rattle.flash_blocks.proofs.laws.each_put_is_held.Goals as goal

pub returns : goal.returns
returns c = λ t bucket key flags cas value put is short answer. is_put t bucket key flags cas value is short put answer
