use Rattle.flash_script.proofs.Scripts.Fronts.{front_more}
use Rattle.flash_script.proofs.Scripts.Readings.{read_by_fronts}
use Rattle.flash_script.proofs.laws.each_line_is_read.Goals as goal

pub returns-clause-parts : goal.returns-clause-parts
returns-clause-parts c = read_by_fronts

pub returns-clause-next : goal.returns-clause-next
returns-clause-next c = front_more
