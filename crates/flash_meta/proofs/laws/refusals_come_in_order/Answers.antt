use Rattle.flash_meta.proofs.Order.{comes_first}
use Rattle.flash_meta.proofs.laws.refusals_come_in_order.Goals as goal

pub returns : goal.returns
returns c = comes_first
