use Rattle.flash_items.proofs.Calls.{slot_some, item_there}
use Rattle.flash_items.proofs.Closings.{used}
use Rattle.flash_items.proofs.items.Items.set_use.Goals as goal

pub index_mut-entry-requires : goal.index_mut-entry-requires
index_mut-entry-requires c = slot_some c.self.inside.table c.self.inside.entries c.self.inside.segments c.args.self.now c.self.invariant c.self.view_is c.args.id c.requires

pub invariant_of-self : goal.invariant_of-self
invariant_of-self c = (used c.self.inside.table c.self.inside.entries c.self.inside.segments c.args.self.now c.self.invariant c.self.view_is c.args.id c.index_mut-entry.result.now c.index_mut-entry.ensures.value c.args.deadline c.args.fetched c.args.access _ (item_there c.self.inside.table c.self.inside.entries c.self.inside.segments c.args.self.now c.self.invariant c.self.view_is c.args.id c.index_mut-entry.result.now c.index_mut-entry.ensures.value)).joined

pub returns : goal.returns
returns c = λ item there. (used c.self.inside.table c.self.inside.entries c.self.inside.segments c.args.self.now c.self.invariant c.self.view_is c.args.id c.index_mut-entry.result.now c.index_mut-entry.ensures.value c.args.deadline c.args.fetched c.args.access item there).view
