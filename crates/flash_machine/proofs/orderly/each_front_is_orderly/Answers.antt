use Rattle.std.proofs.Common.{◌∷◌}
use Rattle.flash_machine.specs.Orderly.{IsOrderly}
use Rattle.flash_machine.proofs.Onward.{EachFrom-split}
use Rattle.flash_machine.proofs.orderly.each_front_is_orderly.Goals as goal

pub returns : goal.returns
returns c = λ g h e es orderly. let parts = EachFrom-split (IsOrderly g) h (e ∷ es) orderly in (parts.0, parts.1.0)
