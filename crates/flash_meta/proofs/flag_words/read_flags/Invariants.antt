use Rattle.std.proofs.Common.{◌≡◌, ℕ, List, length}
use Rattle.flash_text.specs.Words.{spaced_words}
use Rattle.flash_meta.specs.FlagReading.{AreGiven, read_words, flags_in}
use Rattle.flash_meta.proofs.flag_words.read_flags.Given as goal

-- the letters so far, which the table holds, and what the words that are left make of the flags so far
abbrev pub invariant-flags : goal.invariant-flags
invariant-flags l =
    (given : List ℕ) × AreGiven given l.given
    × (read_words l.verb given (spaced_words l.left) l.flags ≡ flags_in l.verb (spaced_words l.asked))

abbrev pub decreases-flags : goal.decreases-flags
decreases-flags l = length l.left
