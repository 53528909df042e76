use Rattle.flash_machine.proofs.EntrySteps.{read_off-one}
use Rattle.flash_machine.proofs.reading_off.each_entry_makes_its_step.Goals as goal

pub returns : goal.returns
returns g c = λ step state h e. read_off-one step state h e
