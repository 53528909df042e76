use Rattle.flash_heads.proofs.Entering.{entry_left}
use Rattle.flash_heads.proofs.entries.each_entry_leaves_its_heads.Goals as goal

pub returns : goal.returns
returns c = entry_left
