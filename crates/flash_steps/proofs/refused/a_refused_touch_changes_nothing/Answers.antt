use Rattle.flash_steps.proofs.Refusing.{untouched}
use Rattle.flash_steps.proofs.refused.a_refused_touch_changes_nothing.Goals as goal

pub returns : goal.returns
returns c = untouched
