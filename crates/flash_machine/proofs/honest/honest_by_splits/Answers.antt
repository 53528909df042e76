use Rattle.flash_machine.proofs.HonestReads.{each_read_agrees, honest_at_splits}
use Rattle.flash_machine.proofs.honest.honest_by_splits.Goals as goal

pub returns : goal.returns
returns c = λ h. (each_read_agrees h, honest_at_splits h)
