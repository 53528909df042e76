use Rattle.flash_commands.specs.declared.place.Place.TheVariants.{InLine}
use Rattle.flash_commands.specs.Commands.{line_limit}
use Rattle.flash_commands.proofs.Going.{goes_on}
use Rattle.flash_commands.proofs.laws.more_bytes_go_on.Goals as goal

pub returns : goal.returns
returns c = λ item_max bytes more. goes_on item_max line_limit 0 InLine bytes more
