use Rattle.flash_machine.proofs.Versions.{versions_rise, are_up_to_last}
use Rattle.flash_machine.proofs.labels.versions_rise.Goals as goal

pub returns : goal.returns
returns c = record {
  above_earlier = λ g before between after first second orderly. versions_rise g before between after first second orderly;
  up_to_the_last = λ g h orderly. are_up_to_last g h orderly;
}
