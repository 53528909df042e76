use Rattle.flash_machine.proofs.Versions.{later_than_freed}
use Rattle.flash_machine.proofs.labels.a_freed_page_gets_a_later_version.Goals as goal

pub returns : goal.returns
returns c = λ g before between after freed opened orderly. later_than_freed g before between after freed opened orderly
