use Rattle.flash_machine.proofs.DeviceReadRuns.{read_gives_written}
use Rattle.flash_machine.proofs.honest.a_read_gives_what_was_written.Goals as goal

pub returns : goal.returns
returns c = λ g before since after id place reader was bytes orderly honest is apart.
    read_gives_written g before since after id place reader was bytes orderly honest is apart
