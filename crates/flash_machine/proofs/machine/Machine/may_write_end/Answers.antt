use Rattle.flash_machine.proofs.machine.Machine.may_write_end.Goals as goal

pub returns : goal.returns
returns c = λ g h stands. c.may_end.ensures g h stands.writes
