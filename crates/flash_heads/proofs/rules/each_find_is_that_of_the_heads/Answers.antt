use Rattle.flash_heads.proofs.Ruling.{finds}
use Rattle.flash_heads.proofs.rules.each_find_is_that_of_the_heads.Goals as goal

pub returns : goal.returns
returns c = finds
