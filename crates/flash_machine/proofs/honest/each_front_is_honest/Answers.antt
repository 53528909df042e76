use Rattle.flash_machine.proofs.HonestReads.{Honest-split}
use Rattle.flash_machine.proofs.honest.each_front_is_honest.Goals as goal

pub returns : goal.returns
returns c = λ h es honest. Honest-split h es honest
