use Rattle.std.proofs.Common.{sym, ap}
use Rattle.flash_names.specs.declared.geometry.Geometry.{Geometry}
use Rattle.flash_machine.proofs.machine.Machine.is_written_over.Goals as goal

pub returns : goal.returns
returns c = λ g h stands. c.is_written_over.ensures g h stands.writes (ap (λ (k : Geometry). k.page_size) (sym stands.geometry))
