use Rattle.flash_index.proofs.ListLaws.{change_listed}
use Rattle.flash_index.proofs.laws.each_change_is_listed.Goals as goal

pub returns : goal.returns
returns c = λ items lists key was now listed there size. change_listed items lists listed key was now there size
