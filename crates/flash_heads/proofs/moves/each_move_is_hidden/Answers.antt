use Rattle.flash_heads.proofs.Moving.{moves}
use Rattle.flash_heads.proofs.moves.each_move_is_hidden.Goals as goal

pub returns : goal.returns
returns c = moves
