use Rattle.flash_meta.proofs.MetaRead.{data_within}
use Rattle.flash_meta.proofs.laws.data_is_within.Goals as goal

pub returns : goal.returns
returns c = data_within
