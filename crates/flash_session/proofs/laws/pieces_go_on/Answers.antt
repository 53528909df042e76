use Rattle.flash_session.proofs.Pieces.{go_on}
use Rattle.flash_session.proofs.laws.pieces_go_on.Goals as goal

pub returns : goal.returns
returns c = go_on
