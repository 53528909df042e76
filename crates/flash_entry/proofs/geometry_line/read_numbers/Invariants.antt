use Rattle.std.proofs.Common.{◌≡◌, ◌+◌, ◌++◌, length}
use Rattle.std.specs.Option.{option_map}
use Rattle.flash_names.specs.Words.{words_if}
use Rattle.flash_entry.specs.GeometryLine.{numbers_of}
use Rattle.flash_entry.proofs.geometry_line.read_numbers.Given as goal

-- the numbers so far, and those of the words that are left
abbrev pub invariant-words : goal.invariant-words
invariant-words l = record {
  so_far : option_map (λ ns. l.numbers.items ++ ns) (numbers_of (words_if (option_map (λ r. r.now) l.left))) ≡ numbers_of (words_if (option_map (λ r. r.now) l.rest));
  eleven : length l.numbers.items + length (words_if (option_map (λ r. r.now) l.left)) ≡ 11;
}

abbrev pub decreases-words : goal.decreases-words
decreases-words l = length (words_if (option_map (λ r. r.now) l.left))
