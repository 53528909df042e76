use Rattle.std.proofs.Common.{arith}
use Rattle.flash_crc.proofs.Entries.{table_entry}
use Rattle.flash_crc.proofs.tables.remainder_of.Goals as goal

pub returns : goal.returns
returns c = table_entry c.args.zeros c.args.byte c.requires (omega arith)
