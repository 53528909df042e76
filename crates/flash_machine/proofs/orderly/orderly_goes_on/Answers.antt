use Rattle.std.proofs.Common.{[], ◌∷◌}
use Rattle.flash_machine.specs.Orderly.{IsOrderly}
use Rattle.flash_machine.proofs.Onward.{EachFrom-append}
use Rattle.flash_machine.proofs.orderly.orderly_goes_on.Goals as goal

pub returns : goal.returns
returns c = λ g h e orderly keeps. EachFrom-append (IsOrderly g) [] h (e ∷ []) orderly (keeps, tt)
