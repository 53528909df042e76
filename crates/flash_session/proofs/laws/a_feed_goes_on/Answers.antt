use Rattle.flash_session.proofs.Feeding.{feeds}
use Rattle.flash_session.proofs.laws.a_feed_goes_on.Goals as goal

pub returns : goal.returns
returns c = λ bytes more told gone s stands. feeds bytes more told gone s stands
