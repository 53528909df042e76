use Rattle.flash_steps.proofs.Numbering.{given}
use Rattle.flash_steps.proofs.numbered.a_stored_item_has_the_next_number.Goals as goal

pub returns : goal.returns
returns c = given
