use Rattle.flash_turn.specs.Passes.{number_of}
use Rattle.flash_turn.specs.Splitting.{known_numbers}
use Rattle.flash_turn.proofs.Apart.{above_all}
use Rattle.flash_turn.proofs.laws.numbers_differ.Goals as goal

pub returns : goal.returns
returns g c = λ turn old new off n here. above_all (number_of new) (known_numbers old) off.above n here
