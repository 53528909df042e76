use Rattle.flash_index.proofs.Closings.{out_named}
use Rattle.flash_index.proofs.index.Index.last_out.Goals as goal

pub returns : goal.returns
returns c = out_named c.self.inside.items c.args.self.now c.self.view_is c.is_in_step.ensures c.last_out.result c.last_out.ensures
