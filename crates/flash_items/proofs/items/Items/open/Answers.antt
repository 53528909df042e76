use Rattle.flash_items.proofs.Steps.{joined_empty}
use Rattle.flash_items.proofs.items.Items.open.Goals as goal

pub invariant_of-result : goal.invariant_of-result
invariant_of-result c = joined_empty _ _ _ c.args.memory c.in_ok-open.ensures.map c.new.ensures.empty c.open-2.ensures
