use Rattle.flash_session.proofs.Pieces.{joined_pieces}
use Rattle.flash_session.proofs.laws.pieces_are_the_replies.Goals as goal

pub returns : goal.returns
returns c = λ asked told. joined_pieces asked told
