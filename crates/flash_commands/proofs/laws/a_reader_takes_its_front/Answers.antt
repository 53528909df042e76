use Rattle.flash_commands.proofs.Taking.{takes}
use Rattle.flash_commands.proofs.laws.a_reader_takes_its_front.Goals as goal

pub returns : goal.returns
returns c = λ item_max n bytes given asked next reader none front has. takes item_max n bytes given asked next reader none front has
