use Rattle.flash_steps.proofs.Counting.{created}
use Rattle.flash_steps.proofs.counted.a_number_is_created_as_asked.Goals as goal

pub returns : goal.returns
returns c = created
