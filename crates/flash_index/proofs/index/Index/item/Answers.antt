use Rattle.flash_index.proofs.Closings.{item_is, place_is}
use Rattle.flash_index.proofs.index.Index.item.Goals as goal

pub returns-clause-item : goal.returns-clause-item
returns-clause-item c = item_is c.self.inside.items c.args.self.now c.self.view_is c.is_in_step.ensures c.args.id c.item.result.key.now c.item.result.parts.now c.item.ensures

pub returns-clause-place : goal.returns-clause-place
returns-clause-place c = place_is c.self.inside.items c.args.self.now c.self.view_is c.is_in_step.ensures c.args.id c.item.result.key.now c.item.result.parts.now c.item.ensures
