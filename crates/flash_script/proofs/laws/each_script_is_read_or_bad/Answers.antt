use Rattle.flash_script.proofs.Scripts.Readings.{read_or_bad}
use Rattle.flash_script.proofs.laws.each_script_is_read_or_bad.Goals as goal

pub returns : goal.returns
returns c = read_or_bad
