use Rattle.flash_commands.proofs.Rests.{block_is_awaited}
use Rattle.flash_commands.proofs.laws.a_block_is_awaited.Goals as goal

pub returns : goal.returns
returns c = block_is_awaited
