use Rattle.flash_machine.specs.Steps.{cache_of}
use Rattle.flash_machine.specs.Rules.{rules}
use Rattle.flash_machine.proofs.Deciding.{all_hold}
use Rattle.flash_machine.proofs.machine.Machine.step.Goals as goal

pub returns-clause-legal : goal.returns-clause-legal
returns-clause-legal c = λ g h stands none. c.in_ok-note.ensures.noted g h stands (all_hold (rules g h (cache_of g h) c.args.entry.now) none)
