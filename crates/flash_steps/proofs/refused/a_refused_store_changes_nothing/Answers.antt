use Rattle.flash_steps.proofs.Refusing.{unstored}
use Rattle.flash_steps.proofs.refused.a_refused_store_changes_nothing.Goals as goal

pub returns : goal.returns
returns c = unstored
