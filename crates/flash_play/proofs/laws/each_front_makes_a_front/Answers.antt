use Rattle.flash_play.proofs.Fronts.{each_front}
use Rattle.flash_play.proofs.laws.each_front_makes_a_front.Goals as goal

pub returns : goal.returns
returns c = each_front
