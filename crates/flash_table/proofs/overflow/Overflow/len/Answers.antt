use Rattle.std.proofs.Common.{ap, length, arith}
use Rattle.flash_table.proofs.Flat.{whole_length}
use Rattle.flash_table.proofs.overflow.Overflow.len.Goals as goal

pub returns : goal.returns
returns c = omega (arith, whole_length c.self.inside.groups.items c.self.invariant, ap length c.self.view_is)
