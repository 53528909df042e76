use Rattle.flash_index.proofs.Closings.{last_named}
use Rattle.flash_index.proofs.index.Index.last_of.Goals as goal

pub returns : goal.returns
returns c = last_named c.self.inside.items c.args.self.now c.self.view_is c.is_in_step.ensures c.last_of.result c.args.segment c.last_of.ensures
