use Rattle.flash_commands.proofs.Asking.{one_key_asks}
use Rattle.flash_commands.proofs.laws.a_one_key_command_asks_once.Goals as goal

pub returns : goal.returns
returns c = one_key_asks
