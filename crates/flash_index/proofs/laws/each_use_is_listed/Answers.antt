use Rattle.flash_index.proofs.ListLaws.{use_listed}
use Rattle.flash_index.proofs.laws.each_use_is_listed.Goals as goal

pub returns : goal.returns
returns c = λ items lists key listed. use_listed items lists listed key
