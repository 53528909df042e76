use Rattle.flash_calls.specs.Calls.{touch_command}
use Rattle.flash_calls.proofs.Commanding.{command_runs, touch_follows}
use Rattle.flash_calls.proofs.laws.each_touch_goes_on.Goals as goal

pub returns : goal.returns
returns c = λ g cache h desk id key exptime is new. command_runs c.laws_below.ensures g (touch_command key exptime) key (touch_follows key exptime g) h cache desk id is new
