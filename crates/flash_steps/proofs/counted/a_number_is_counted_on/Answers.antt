use Rattle.flash_steps.proofs.Counting.{counted}
use Rattle.flash_steps.proofs.counted.a_number_is_counted_on.Goals as goal

pub returns : goal.returns
returns c = counted
