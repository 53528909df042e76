use Rattle.flash_index.proofs.Closings.{previous_named}
use Rattle.flash_index.proofs.index.Index.before.Goals as goal

pub returns : goal.returns
returns c = previous_named c.self.inside.items c.args.self.now c.self.view_is c.is_in_step.ensures c.args.id c.before-2.result c.before-2.ensures
