use Rattle.flash_index.proofs.Closings.{are_listed}
use Rattle.flash_index.proofs.index.Index.is_listed.Goals as goal

pub returns : goal.returns
returns c = are_listed c.self.inside.items c.args.self.now c.self.view_is c.is_in_step.ensures
