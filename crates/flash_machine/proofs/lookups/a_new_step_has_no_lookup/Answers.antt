use Rattle.flash_machine.proofs.LookupRuns.{new_has_no_lookup}
use Rattle.flash_machine.proofs.lookups.a_new_step_has_no_lookup.Goals as goal

pub returns : goal.returns
returns c = λ g h id run new. new_has_no_lookup g id h run new
