use Rattle.std.proofs.Common.{refl}
use Rattle.flash_session.specs.States.{front_now}
use Rattle.flash_session.proofs.Resting.{read_none_skipped, read_step, read_free}
use Rattle.flash_session.proofs.Reading.{reads_by}
use Rattle.flash_session.proofs.laws.a_read_goes_on.Goals as goal

pub returns : goal.returns
returns c = λ bytes told gone s next read stands.
    reads_by bytes told gone s stands (read_none_skipped bytes told gone s stands next read) (read_step bytes told gone s stands next read)
    (read_free bytes told gone s stands next read) (front_now s) next refl read
