use Rattle.std.proofs.Common.{◌≡◌, ◌^◌, ◌<◌, drop}
use Rattle.flash_names.specs.Numbers.{value_from, if_below}
use Rattle.flash_names.proofs.words.value_of_digits.Given as goal

-- the number so far, and the digits that are left
abbrev pub invariant-digits : goal.invariant-digits
invariant-digits l = record {
  below : l.number < 2 ^ 64;
  left : if_below (2 ^ 64) (value_from l.number (drop l.digit-index l.word)) ≡ if_below (2 ^ 64) (value_from 0 l.word);
}
