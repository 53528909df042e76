use Rattle.std.proofs.Common.{ap}
use Rattle.flash_answers.specs.Outcomes.{or_no_memory}
use Rattle.flash_answers.proofs.Behind.{new_has_none}
use Rattle.flash_answers.proofs.laws.a_new_step_has_no_entry.Goals as goal

pub returns : goal.returns
returns c = λ g h id new. ap or_no_memory (new_has_none g id h new)
