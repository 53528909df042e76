use Rattle.flash_steps.proofs.Flushing.{spared}
use Rattle.flash_steps.proofs.flushed.a_flush_spares_each_later_item.Goals as goal

pub returns : goal.returns
returns c = spared
