use Rattle.std.proofs.Common.{arith}
use Rattle.flash_commands.specs.Commands.{line_limit}
use Rattle.flash_commands.proofs.Taking.{has_a_byte}
use Rattle.flash_commands.proofs.laws.each_front_has_a_byte.Goals as goal

pub returns : goal.returns
returns c = λ item_max n place next bytes asked front. has_a_byte item_max line_limit (omega arith) n asked place next bytes front
