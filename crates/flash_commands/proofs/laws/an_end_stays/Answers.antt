use Rattle.flash_commands.proofs.Going.{ends_alike}
use Rattle.flash_commands.proofs.laws.an_end_stays.Goals as goal

pub returns : goal.returns
returns c = λ item_max bytes more end. ends_alike item_max bytes more end
