use Rattle.flash_index.proofs.Closings.{found}
use Rattle.flash_index.proofs.index.Index.find.Goals as goal

pub returns-clause-there : goal.returns-clause-there
returns-clause-there c = found c.self.inside.items c.args.self.now c.self.view_is c.find.result c.args.key.now c.find.ensures
