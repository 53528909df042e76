use Rattle.std.proofs.Common.{sym, ◌∙◌}
use Rattle.flash_machine.proofs.Tabled.{counted_as}
use Rattle.flash_machine.proofs.machine.item_table.ItemTable.len.Goals as goal

pub returns : goal.returns
returns c = λ items was. c.len.ensures.len ∙ sym (counted_as c.args.self.now items was.entries)
