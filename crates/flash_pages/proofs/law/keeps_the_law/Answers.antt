use Rattle.flash_pages.specs.Law.{labels_given}
use Rattle.flash_pages.proofs.VictimLemmas.{evicted, compacted}
use Rattle.flash_pages.proofs.FreeableLemmas.{first_to_free}
use Rattle.flash_pages.proofs.EndedLemmas.{ended}
use Rattle.flash_pages.proofs.LawLemmas.{rise, distinct, counted, kept}
use Rattle.flash_pages.proofs.law.keeps_the_law.Goals as goal

pub returns-clause-counted : goal.returns-clause-counted
returns-clause-counted c = counted

pub returns-clause-pinned : goal.returns-clause-pinned
returns-clause-pinned c = kept

pub returns-clause-ended : goal.returns-clause-ended
returns-clause-ended c = ended

pub returns-clause-rising : goal.returns-clause-rising
returns-clause-rising c = rise

pub returns-clause-fresh : goal.returns-clause-fresh
returns-clause-fresh c = λ t calls. distinct t.last_version (labels_given t calls) (rise t calls)

pub returns-clause-freeable : goal.returns-clause-freeable
returns-clause-freeable c = first_to_free

pub returns-clause-evicted : goal.returns-clause-evicted
returns-clause-evicted c = evicted

pub returns-clause-compacted : goal.returns-clause-compacted
returns-clause-compacted c = compacted
