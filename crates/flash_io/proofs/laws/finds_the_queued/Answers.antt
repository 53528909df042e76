use Rattle.flash_io.proofs.FindingLemmas.{finding}
use Rattle.flash_io.proofs.laws.finds_the_queued.Goals as goal

pub returns : goal.returns
returns c = λ t id sound. finding t id sound
