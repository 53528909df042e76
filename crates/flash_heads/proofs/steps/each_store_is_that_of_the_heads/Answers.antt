use Rattle.flash_heads.proofs.Stepping.{stores}
use Rattle.flash_heads.proofs.steps.each_store_is_that_of_the_heads.Goals as goal

pub returns : goal.returns
returns c = stores
