use Rattle.std.proofs.Common.{subst}
use Rattle.flash_table.specs.AtHome.{HasKeysAtHome}
use Rattle.flash_table.proofs.AtHome.{at_home}
use Rattle.flash_table.proofs.table.Table.keys_are_at_home.Goals as goal

pub returns : goal.returns
returns c = subst HasKeysAtHome c.self.view_is (at_home c.self.inside.keys c.self.inside.chains.items c.self.invariant.chained c.self.inside.spare)
