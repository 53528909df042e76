use Rattle.std.proofs.Common.{◌≡◌, length}
use Rattle.std.specs.Prelude.{slice_get}
use Rattle.flash_text.specs.Words.{spaced_words}
use Rattle.flash_session.proofs.steps.word_at.Given as goal

abbrev pub invariant-words : goal.invariant-words
invariant-words l = slice_get (spaced_words l.left) l.n ≡ slice_get (spaced_words l.words) l.number

abbrev pub decreases-words : goal.decreases-words
decreases-words l = length l.left
