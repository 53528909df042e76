use Rattle.flash_index.proofs.Closings.{opened}
use Rattle.flash_index.proofs.MarkCalls.{are_none}
use Rattle.flash_index.proofs.index.Index.open.Goals as goal

pub returns : goal.returns
returns c = opened c.in_ok-open.field-0 c.args.memory c.in_ok-open.ensures.ids c.in_ok-open.ensures.items c.in_ok-open.ensures.lists

pub invariant_of-result : goal.invariant_of-result
invariant_of-result c = are_none c.none.result (record { least = 0; most = 0 }) c.none.ensures c.in_ok-open.field-0
