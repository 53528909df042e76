use Rattle.flash_index.proofs.ListLaws.{no_last_no_load}
use Rattle.flash_index.proofs.laws.no_last_is_no_load.Goals as goal

pub returns : goal.returns
returns c = λ items lists listed none. no_last_no_load items lists listed none
