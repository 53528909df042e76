use Rattle.flash_entry.proofs.OneLines.{entry_one_line}
use Rattle.flash_entry.proofs.laws.each_entry_is_one_line.Goals as goal

pub returns : goal.returns
returns c = entry_one_line
