use Rattle.std.proofs.Common.{List, length, length-append, ap, ◌∙◌, arith}
use Rattle.flash_table.specs.declared.entry.Entry.{Entry}
use Rattle.flash_table.specs.Entries.{entry_at, vacants}
use Rattle.flash_table.proofs.Widened.{blank_at, vacants_at}
use Rattle.flash_table.proofs.growth.empty_chain.Goals as goal

pub groups-preserved : goal.groups-preserved
groups-preserved c = (
  omega (arith, ap length c.in_ok-add_group.ensures.added, length-append c.groups.chain (vacants 16), c.groups.invariant.0),
  λ i. ap (λ (es : List Entry). entry_at es i) c.in_ok-add_group.ensures.added ∙ blank_at c.groups.chain (vacants 16) (vacants_at 16) i ∙ c.groups.invariant.1 i,
)
