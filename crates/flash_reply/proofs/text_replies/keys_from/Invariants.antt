use Rattle.std.proofs.Common.{◌≡◌, ◌-◌, drop}
use Rattle.flash_text.specs.Words.{spaced_words}
use Rattle.flash_reply.proofs.text_replies.keys_from.Given as goal

-- those of the keys that are left that the step's key comes after
abbrev pub invariant-keys : goal.invariant-keys
invariant-keys l = record { keys : drop l.before (spaced_words l.left) ≡ drop (l.fn.step - 1) (spaced_words l.fn.keys) }

abbrev pub decreases-keys : goal.decreases-keys
decreases-keys l = l.before
