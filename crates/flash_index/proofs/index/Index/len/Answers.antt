use Rattle.std.proofs.Common.{◌∙◌}
use Rattle.flash_index.proofs.Closings.{as_many}
use Rattle.flash_index.proofs.index.Index.len.Goals as goal

pub returns : goal.returns
returns c = c.len.ensures ∙ as_many c.self.inside.items c.args.self.now c.self.view_is c.is_in_step.ensures
