use Rattle.flash_calls.proofs.Moving.{move_runs}
use Rattle.flash_calls.proofs.laws.each_move_goes_on.Goals as goal

pub returns : goal.returns
returns c = λ g cache h desk is. move_runs c.laws_below.ensures g h cache desk is
