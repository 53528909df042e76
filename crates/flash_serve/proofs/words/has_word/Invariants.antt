use Rattle.std.proofs.Common.{◌≡◌, length}
use Rattle.flash_serve.specs.Words.{has_word}
use Rattle.flash_serve.proofs.words.has_word.Given as goal

-- what is left decides
abbrev pub invariant-words : goal.invariant-words
invariant-words l = has_word l.name l.rest ≡ has_word l.name l.words

abbrev pub decreases-words : goal.decreases-words
decreases-words l = length l.rest
