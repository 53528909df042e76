use Rattle.flash_heads.proofs.Ruling.{ruled}
use Rattle.flash_heads.proofs.rules.each_rule_is_that_of_the_heads.Goals as goal

pub returns : goal.returns
returns c = ruled
