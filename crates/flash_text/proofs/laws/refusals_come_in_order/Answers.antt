use Rattle.flash_text.proofs.Causes.{comes_first}
use Rattle.flash_text.proofs.laws.refusals_come_in_order.Goals as goal

pub returns : goal.returns
returns c = comes_first
