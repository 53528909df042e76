use Rattle.flash_index.proofs.ListLaws.{resize_listed}
use Rattle.flash_index.proofs.laws.each_resize_is_listed.Goals as goal

pub returns : goal.returns
returns c = λ items lists key now listed there. resize_listed items lists listed key now there
