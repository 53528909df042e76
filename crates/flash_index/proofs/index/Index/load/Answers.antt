use Rattle.std.proofs.Common.{◌∙◌}
use Rattle.flash_index.proofs.Closings.{as_heavy}
use Rattle.flash_index.proofs.index.Index.load.Goals as goal

pub returns : goal.returns
returns c = c.load.ensures ∙ as_heavy c.self.inside.items c.args.self.now c.self.view_is c.is_in_step.ensures
