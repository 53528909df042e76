use Rattle.flash_entry.proofs.BackEntries.{entry_read_back}
use Rattle.flash_entry.proofs.laws.each_entry_is_read_back.Goals as goal

pub returns : goal.returns
returns c = entry_read_back
