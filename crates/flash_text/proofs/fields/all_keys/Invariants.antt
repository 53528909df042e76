use Rattle.std.proofs.Common.{◌≡◌, length}
use Rattle.std.specs.List.{list_all}
use Rattle.flash_text.specs.Keys.{is_key}
use Rattle.flash_text.specs.Words.{spaced_words}
use Rattle.flash_text.proofs.fields.all_keys.Given as goal

-- the words so far are keys, so the rest decides
abbrev pub invariant-keys : goal.invariant-keys
invariant-keys l = list_all is_key (spaced_words l.left) ≡ list_all is_key (spaced_words l.line)

abbrev pub decreases-keys : goal.decreases-keys
decreases-keys l = length l.left
