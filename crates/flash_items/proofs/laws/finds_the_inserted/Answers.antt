use Rattle.flash_items.proofs.HistoryLemmas.{found, added, taken}
use Rattle.flash_items.proofs.laws.finds_the_inserted.Goals as goal

pub returns-clause-found : goal.returns-clause-found
returns-clause-found c = λ s key calls. found key calls s

pub returns-clause-added : goal.returns-clause-added
returns-clause-added c = added

pub returns-clause-taken : goal.returns-clause-taken
returns-clause-taken c = taken
