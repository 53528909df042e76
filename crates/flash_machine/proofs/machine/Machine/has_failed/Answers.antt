use Rattle.flash_machine.proofs.machine.Machine.has_failed.Goals as goal

pub returns : goal.returns
returns c = λ g h stands. c.has_failed.ensures g h stands.writes
