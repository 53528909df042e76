use Rattle.std.proofs.Common.{arith}
use Rattle.flash_machine.proofs.Versions.{versions_rise, ends_after_opening}
use Rattle.flash_machine.proofs.labels.a_label_is_opened_once.Goals as goal

pub returns : goal.returns
returns c = record {
  not_again = λ g before between after label orderly. omega (arith, versions_rise g before between after label label orderly);
  before_its_end = λ g before after label orderly. ends_after_opening g before after label orderly;
}
