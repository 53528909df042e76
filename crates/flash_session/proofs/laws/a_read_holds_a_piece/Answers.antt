use Rattle.std.proofs.Common.{refl}
use Rattle.flash_session.specs.States.{front_now}
use Rattle.flash_session.proofs.Resting.{read_none_skipped, read_step, read_free}
use Rattle.flash_session.proofs.HoldingPieces.{read_piece}
use Rattle.flash_session.proofs.laws.a_read_holds_a_piece.Goals as goal

pub returns : goal.returns
returns c = λ bytes told gone s next empty read stands.
    read_piece bytes told gone s stands (read_none_skipped bytes told gone s stands next read) empty (read_step bytes told gone s stands next read)
    (read_free bytes told gone s stands next read) (front_now s) next refl read
