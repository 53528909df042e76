use Rattle.flash_machine.proofs.DeviceReadRuns.{begins_once, ends_once}
use Rattle.flash_machine.proofs.reads.a_step_reads_once.Goals as goal

pub returns : goal.returns
returns c = record {
  begins = λ g before between after id first second reader other orderly. begins_once g id before between after first second reader other orderly;
  ends = λ g before between after id first second orderly. ends_once g id before between after first second orderly;
}
