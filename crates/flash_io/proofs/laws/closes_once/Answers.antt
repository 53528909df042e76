use Rattle.flash_io.proofs.LawLemmas.{closes_at_most}
use Rattle.flash_io.proofs.laws.closes_once.Goals as goal

pub returns : goal.returns
returns c = λ t slot calls allowed. closes_at_most slot calls t allowed
