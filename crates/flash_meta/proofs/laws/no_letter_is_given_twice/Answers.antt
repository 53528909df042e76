use Rattle.flash_meta.proofs.Letters.{letters_differ}
use Rattle.flash_meta.proofs.laws.no_letter_is_given_twice.Goals as goal

pub returns : goal.returns
returns c = letters_differ
