use Rattle.std.proofs.Common.{sym, ◌∙◌}
use Rattle.flash_machine.specs.Load.{item_load}
use Rattle.flash_machine.specs.Followed.{one_if_labelled}
use Rattle.flash_machine.proofs.Totals.{total_none, no_entries}
use Rattle.flash_machine.proofs.machine.item_table.ItemTable.new.Goals as goal

pub returns : goal.returns
returns c = record {
  entries = no_entries ∙ sym c.new.ensures.empty;
  load = total_none (λ e. item_load e.0 e.1);
  labelled = λ label. total_none (one_if_labelled label) ∙ sym (c.new-2.ensures label);
}
