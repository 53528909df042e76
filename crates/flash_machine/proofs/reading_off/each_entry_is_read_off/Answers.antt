use Rattle.flash_machine.proofs.EntrySteps.{is_read_off}
use Rattle.flash_machine.proofs.reading_off.each_entry_is_read_off.Goals as goal

pub returns : goal.returns
returns c = λ g h e. is_read_off g h e
