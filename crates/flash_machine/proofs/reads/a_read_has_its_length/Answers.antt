use Rattle.flash_machine.proofs.DeviceReadRuns.{read_length}
use Rattle.flash_machine.proofs.reads.a_read_has_its_length.Goals as goal

pub returns : goal.returns
returns c = λ g before since after id place reader bytes orderly. read_length g id before since after place reader bytes orderly
