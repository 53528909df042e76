use Rattle.std.proofs.Common.{◌≡◌, length}
use Rattle.flash_text.specs.Words.{to_word}
use Rattle.flash_text.proofs.words.to_word.Given as goal

-- what is left out are spaces
abbrev pub invariant-spaces : goal.invariant-spaces
invariant-spaces l = to_word l.left ≡ to_word l.line

abbrev pub decreases-spaces : goal.decreases-spaces
decreases-spaces l = length l.left
