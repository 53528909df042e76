use Rattle.std.proofs.Common.{sym, ◌∙◌}
use Rattle.flash_store_tests.proofs.items.replaced_parts.Goals as goal

pub replace-requires-clause-same : goal.replace-requires-clause-same
replace-requires-clause-same c = λ was there. c.in_ok-sample.ensures.named was there ∙ sym (c.in_ok-other.ensures.key ∙ c.copy.ensures)
