use Rattle.std.proofs.Common.{[]}
use Rattle.flash_machine.specs.Orderly.{IsOrderly}
use Rattle.flash_machine.proofs.Onward.{EachFrom-append}
use Rattle.flash_machine.proofs.orderly.orderly_goes_on_by.Goals as goal

pub returns : goal.returns
returns c = λ g h es orderly keep. EachFrom-append (IsOrderly g) [] h es orderly keep
