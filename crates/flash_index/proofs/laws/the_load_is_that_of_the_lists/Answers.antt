use Rattle.flash_index.proofs.LoadLemmas.{load_listed}
use Rattle.flash_index.proofs.laws.the_load_is_that_of_the_lists.Goals as goal

pub returns : goal.returns
returns c = load_listed
