use Rattle.flash_entry.proofs.ReadBack.{read_back}
use Rattle.flash_entry.proofs.laws.geometry_lines_are_read_back.Goals as goal

pub returns : goal.returns
returns c = read_back
