use Rattle.flash_index.proofs.ListLaws.{removal_listed}
use Rattle.flash_index.proofs.laws.each_removal_is_listed.Goals as goal

pub returns : goal.returns
returns c = λ items lists key listed. removal_listed items lists listed key
