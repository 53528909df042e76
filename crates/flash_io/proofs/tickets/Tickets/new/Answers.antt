use Rattle.std.proofs.Common.{rules}
use Rattle.flash_io.proofs.TableLemmas.{sound-none}
use Rattle.flash_io.proofs.OpenLemmas.{none-open}
use Rattle.flash_io.proofs.tickets.Tickets.new.Goals as goal

pub returns-clause-fresh : goal.returns-clause-fresh
returns-clause-fresh c = none-open _ (search rules)

pub invariant_of-result : goal.invariant_of-result
invariant_of-result c = sound-none c.new.result _ c.new.ensures.empty c.new-2.ensures.items
