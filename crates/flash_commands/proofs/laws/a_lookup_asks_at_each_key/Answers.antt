use Rattle.flash_commands.proofs.Asking.{lookup_asks}
use Rattle.flash_commands.proofs.laws.a_lookup_asks_at_each_key.Goals as goal

pub returns : goal.returns
returns c = lookup_asks
