use Rattle.flash_index.proofs.ListLaws.{move_listed}
use Rattle.flash_index.proofs.laws.each_move_is_listed.Goals as goal

pub returns : goal.returns
returns c = λ items lists memory listed. move_listed items lists listed memory
