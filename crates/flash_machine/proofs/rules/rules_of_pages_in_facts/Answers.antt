use Rattle.flash_machine.proofs.RuleMeanings.{in_use, passes_in_use, over, passes_over, next_label, passes_next_label, may_write, passes_may_write, may_end_write, passes_may_end_write, may_read, passes_may_read, may_end_read, passes_may_end_read}
use Rattle.flash_machine.proofs.rules.rules_of_pages_in_facts.Goals as goal

pub returns : goal.returns
returns c = record {
  ended = λ h label. (in_use h label, passes_in_use h label);
  freed = λ h label. (over h label, passes_over h label);
  opened = λ g h label. (next_label g h label, passes_next_label g h label);
  write_began = λ g h place. (may_write g h place, passes_may_write g h place);
  write_ended = λ h place outcome. (may_end_write h place outcome, passes_may_end_write h place outcome);
  read_began = λ h id place. (may_read h id place, passes_may_read h id place);
  read_ended = λ h id outcome. (may_end_read h id outcome, passes_may_end_read h id outcome);
}
