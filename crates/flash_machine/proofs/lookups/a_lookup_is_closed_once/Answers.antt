use Rattle.flash_machine.proofs.LookupRuns.{closed_once}
use Rattle.flash_machine.proofs.lookups.a_lookup_is_closed_once.Goals as goal

pub returns : goal.returns
returns c = λ g before between after id first second run. closed_once g id before between after first second run
