use Rattle.flash_steps.proofs.Refusing.{uncounted}
use Rattle.flash_steps.proofs.refused.refused_arithmetic_changes_nothing.Goals as goal

pub returns : goal.returns
returns c = uncounted
