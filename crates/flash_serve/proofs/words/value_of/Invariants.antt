use Rattle.std.proofs.Common.{◌≡◌, length}
use Rattle.flash_serve.specs.Words.{value_of}
use Rattle.flash_serve.proofs.words.value_of.Given as goal

-- what is left decides
abbrev pub invariant-words : goal.invariant-words
invariant-words l = value_of l.name l.rest ≡ value_of l.name l.words

abbrev pub decreases-words : goal.decreases-words
decreases-words l = length l.rest
