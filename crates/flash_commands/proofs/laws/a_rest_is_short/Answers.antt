use Rattle.flash_commands.proofs.Rests.{rest_is_short}
use Rattle.flash_commands.proofs.laws.a_rest_is_short.Goals as goal

pub returns : goal.returns
returns c = rest_is_short c.blocks_are_within.ensures
