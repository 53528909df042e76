use Rattle.std.proofs.Common.{◌≡◌, ◌++◌, length}
use Rattle.std.specs.List.{flat_map}
use Rattle.flash_text.specs.Words.{spaced_words}
use Rattle.flash_reply.specs.GivenBack.{flag_text, given_back}
use Rattle.flash_reply.specs.Queue.{IsInFront}
use Rattle.flash_reply.proofs.given_back.push_given_back.Given as goal

-- what is pushed, with what the flags that are left give back, is all that is given back
abbrev pub invariant-flags : goal.invariant-flags
invariant-flags l = record {
  all : l.out.items ++ flat_map (flag_text l.meta l.facts) (spaced_words l.left) ≡ l.fn.out.items ++ given_back l.meta l.facts;
  front : IsInFront l.fn.out.items l.out.items;
}

abbrev pub decreases-flags : goal.decreases-flags
decreases-flags l = length l.left
