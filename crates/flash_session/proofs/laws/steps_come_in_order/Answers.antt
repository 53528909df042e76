use Rattle.flash_session.proofs.Talking.{talk_taken}
use Rattle.flash_session.proofs.laws.steps_come_in_order.Goals as goal

pub returns : goal.returns
returns c = λ asked told none. talk_taken asked told none
