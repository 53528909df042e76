use Rattle.flash_script.proofs.Scripts.FirstLine.{fault_no_line, too_many_bytes}
use Rattle.flash_script.proofs.Scripts.Laws.{bad_first_line, first_bad, short_line, too_many_steps}
use Rattle.flash_script.proofs.laws.the_first_bad_line_is_the_fault.Goals as goal

pub returns-clause-step : goal.returns-clause-step
returns-clause-step c = first_bad

pub returns-clause-first_line : goal.returns-clause-first_line
returns-clause-first_line c = bad_first_line

pub returns-clause-short : goal.returns-clause-short
returns-clause-short c = short_line

pub returns-clause-short_first_line : goal.returns-clause-short_first_line
returns-clause-short_first_line c = fault_no_line

pub returns-clause-long : goal.returns-clause-long
returns-clause-long c = too_many_bytes

pub returns-clause-many : goal.returns-clause-many
returns-clause-many c = too_many_steps
