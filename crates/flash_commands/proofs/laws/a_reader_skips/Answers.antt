use Rattle.flash_commands.proofs.Taking.{skips}
use Rattle.flash_commands.proofs.laws.a_reader_skips.Goals as goal

pub returns : goal.returns
returns c = λ item_max n bytes given reader least there has. skips item_max n bytes given reader least there has
