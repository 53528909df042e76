use Rattle.flash_commands.proofs.Taking.{rest_is_all}
use Rattle.flash_commands.proofs.laws.a_rest_is_all.Goals as goal

pub returns : goal.returns
returns c = λ item_max bytes given reader none rest has. rest_is_all item_max bytes given reader none rest has
