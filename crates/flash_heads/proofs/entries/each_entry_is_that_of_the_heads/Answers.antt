use Rattle.flash_heads.proofs.Entering.{entry}
use Rattle.flash_heads.proofs.entries.each_entry_is_that_of_the_heads.Goals as goal

pub returns : goal.returns
returns c = entry
