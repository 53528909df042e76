use Rattle.flash_check.proofs.Runs.{each_run}
use Rattle.flash_check.proofs.laws.each_run_is_legal.Goals as goal

pub returns : goal.returns
returns c =
    each_run c.each_entry_is_one_line.ensures c.each_entry_is_read_back.ensures c.what_is_read_is_an_entry.ensures c.what_is_read_is_its_line.ensures
    c.each_entry_is_a_step.ensures c.rules_decide.ensures.decide
