use Rattle.flash_items.proofs.Calls.{slot_some, item_named}
use Rattle.flash_items.proofs.items.Items.item.Goals as goal

pub index-entry-requires : goal.index-entry-requires
index-entry-requires c = slot_some c.self.inside.table c.self.inside.entries c.self.inside.segments c.args.self.now c.self.invariant c.self.view_is c.args.id c.requires

pub returns : goal.returns
returns c = item_named c.self.inside.table c.self.inside.entries c.self.inside.segments c.args.self.now c.self.invariant c.self.view_is c.args.id _ _ c.index-entry.ensures c.key.ensures
