use Rattle.std.proofs.Common.{sym, ◌∙◌}
use Rattle.flash_machine.proofs.machine.page_table.PageTable.has_ended.Goals as goal

pub returns : goal.returns
returns c = λ g h was. c.contains.ensures ∙ sym (was.ended c.args.label)
