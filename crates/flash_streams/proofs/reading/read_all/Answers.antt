use Rattle.flash_streams.proofs.Pieces.{rest_on, at_error}
use Rattle.flash_streams.proofs.reading.read_all.Goals as goal

pub returns-in_err-read_piece-clause-begun : goal.returns-in_err-read_piece-clause-begun
returns-in_err-read_piece-clause-begun g c =
    at_error c.from_residual.result _
    (rest_on c.reads.bytes.items _ _ _ c.reads.invariant.taken c.in_err-read_piece.ensures.begun)
