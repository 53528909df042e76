use Rattle.flash_play.proofs.Serving.{had_memory}
use Rattle.flash_play.proofs.laws.each_answer_had_memory.Goals as goal

pub returns : goal.returns
returns c = had_memory
