use Rattle.flash_machine.proofs.machine.Machine.is_none_or.Goals as goal

pub returns : goal.returns
returns c = λ g h stands. c.is_none_or.ensures g h stands.writes
