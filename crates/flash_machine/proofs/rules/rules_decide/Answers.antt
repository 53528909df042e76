use Rattle.flash_machine.specs.Rules.{rules}
use Rattle.flash_machine.proofs.Deciding.{all_hold, none_broken, lowest_named}
use Rattle.flash_machine.proofs.rules.rules_decide.Goals as goal

pub returns-clause-decide : goal.returns-clause-decide
returns-clause-decide c = λ g h d e. (all_hold (rules g h d e), none_broken (rules g h d e))

pub returns-clause-lowest : goal.returns-clause-lowest
returns-clause-lowest c = λ g h d e number is. lowest_named g h d e number is
