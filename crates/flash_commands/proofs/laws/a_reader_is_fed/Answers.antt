use Rattle.flash_commands.proofs.Going.{is_fed}
use Rattle.flash_commands.proofs.laws.a_reader_is_fed.Goals as goal

pub returns : goal.returns
returns c = λ item_max bytes more given reader has. is_fed item_max bytes more given reader has
