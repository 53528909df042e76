use Rattle.flash_calls.proofs.Roaming.{reap_runs}
use Rattle.flash_calls.proofs.laws.each_reaping_goes_on.Goals as goal

pub returns : goal.returns
returns c = λ g cache h desk is. reap_runs c.laws_below.ensures g h cache desk is
