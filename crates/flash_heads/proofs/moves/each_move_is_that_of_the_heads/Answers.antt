use Rattle.flash_heads.proofs.Moving.{same_move}
use Rattle.flash_heads.proofs.moves.each_move_is_that_of_the_heads.Goals as goal

pub returns : goal.returns
returns c = same_move
