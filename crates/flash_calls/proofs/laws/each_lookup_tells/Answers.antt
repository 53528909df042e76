use Rattle.flash_calls.proofs.Telling.{look_tells}
use Rattle.flash_calls.proofs.laws.each_lookup_tells.Goals as goal

pub returns : goal.returns
returns c = look_tells c.laws_below.ensures
