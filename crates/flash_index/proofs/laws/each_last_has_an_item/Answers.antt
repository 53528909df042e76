use Rattle.flash_index.proofs.ListLaws.{last_has_item}
use Rattle.flash_index.proofs.laws.each_last_has_an_item.Goals as goal

pub returns : goal.returns
returns c = λ items lists key listed. last_has_item items lists listed key
