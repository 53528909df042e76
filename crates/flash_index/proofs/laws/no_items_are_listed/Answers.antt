use Rattle.flash_index.proofs.ListLaws.{none_listed}
use Rattle.flash_index.proofs.laws.no_items_are_listed.Goals as goal

pub returns : goal.returns
returns c = none_listed
