use Rattle.std.proofs.Common.{sym, ◌∙◌}
use Rattle.flash_machine.proofs.machine.lookup_table.LookupTable.was_from_buffer.Goals as goal

pub returns : goal.returns
returns c = λ g h was. c.contains.ensures ∙ sym (was.buffered c.args.id)
