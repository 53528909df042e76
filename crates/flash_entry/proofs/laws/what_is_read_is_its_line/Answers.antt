use Rattle.flash_entry.proofs.SoundEntries.{its_line}
use Rattle.flash_entry.proofs.laws.what_is_read_is_its_line.Goals as goal

pub returns : goal.returns
returns c = its_line
