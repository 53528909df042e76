use Rattle.flash_steps.proofs.Flushing.{ended}
use Rattle.flash_steps.proofs.flushed.a_flush_ends_each_older_item.Goals as goal

pub returns : goal.returns
returns c = ended
