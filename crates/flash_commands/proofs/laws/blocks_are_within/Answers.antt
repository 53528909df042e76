use Rattle.flash_commands.proofs.Blocks.{blocks_within}
use Rattle.flash_commands.proofs.laws.blocks_are_within.Goals as goal

pub returns : goal.returns
returns c = blocks_within c.numbers_are_in_range.ensures c.data_follows_storage_lines.ensures c.data_is_within.ensures
