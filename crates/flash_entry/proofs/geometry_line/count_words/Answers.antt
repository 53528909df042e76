use Rattle.std.proofs.Common.{arith}
use Rattle.flash_entry.proofs.WordLemmas.{length-words}
use Rattle.flash_entry.proofs.geometry_line.count_words.Goals as goal

pub returns-in-Some : goal.returns-in-Some
returns-in-Some c = rw c.in-Some.is (omega (arith, length-words c.in-Some.rest.now, c.count_spaces.ensures.count))
