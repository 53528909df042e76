use Rattle.flash_steps.proofs.Flushing.{waits}
use Rattle.flash_steps.proofs.flushed.a_delayed_flush_waits.Goals as goal

pub returns : goal.returns
returns c = waits
