use Rattle.flash_entry.proofs.SoundEntries.{is_entry}
use Rattle.flash_entry.proofs.laws.what_is_read_is_an_entry.Goals as goal

pub returns : goal.returns
returns c = λ entry line is. is_entry line entry is
