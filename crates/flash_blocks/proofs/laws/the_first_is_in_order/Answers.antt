use Rattle.flash_blocks.proofs.OrderLemmas.{first_in_order}
use Rattle.flash_blocks.proofs.laws.the_first_is_in_order.Goals as goal

pub returns : goal.returns
returns c = first_in_order
