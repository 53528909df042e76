use Rattle.flash_items.proofs.HistoryLemmas.{listed, listed_at_start}
use Rattle.flash_items.proofs.laws.lists_each_once.Goals as goal

pub returns-clause-start : goal.returns-clause-start
returns-clause-start c = listed_at_start

pub returns-clause-kept : goal.returns-clause-kept
returns-clause-kept c = λ s calls. listed calls s
