use Rattle.flash_machine.proofs.Tabled.{from_ok}
use Rattle.flash_machine.proofs.machine.lookup_table.insert.Goals as goal

pub returns : goal.returns
returns c = λ other. (from_ok c.insert.result c.insert.ensures.updates (c.insert.ensures.succeeds c.requires)).0 (other.pass, other.seq)
