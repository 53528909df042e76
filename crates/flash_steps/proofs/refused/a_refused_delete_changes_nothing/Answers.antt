use Rattle.flash_steps.proofs.Refusing.{undeleted}
use Rattle.flash_steps.proofs.refused.a_refused_delete_changes_nothing.Goals as goal

pub returns : goal.returns
returns c = undeleted
