use Rattle.std.proofs.Common.{◌∙◌, ap, sym}
use Rattle.std.specs.FinMap.{get}
use Rattle.slab.specs.Slab.{get as slot_at}
use Rattle.flash_items.specs.declared.item.Entry.{Entry}
use Rattle.flash_items.specs.declared.item.Item.{Item}
use Rattle.flash_items.proofs.Steps.{one_value}
use Rattle.flash_items.proofs.Calls.{slot_some, item_there, item_is}
use Rattle.flash_items.proofs.Closings.{bodied}
use Rattle.flash_items.proofs.items.Items.set_body.Goals as goal

pub index-requires : goal.index-requires
index-requires c = slot_some c.self.inside.table c.self.inside.entries c.self.inside.segments c.args.self.now c.self.invariant c.self.view_is c.args.id c.requires.there

pub invariant_of-self : goal.invariant_of-self
invariant_of-self c = rw c.replace-was.ensures.after (bodied c.self.inside.table c.self.inside.entries c.self.inside.segments c.args.self.now c.self.invariant c.self.view_is c.args.id c.index_mut-entry.result.now c.index_mut-entry.ensures.value c.args.body c.key.result.now (ap (λ (e : Entry). get c.self.inside.table.keys e.key.number) (one_value (slot_at c.self.inside.entries c.args.id.key) c.index_mut-entry.result.now c.index.result.now c.index_mut-entry.ensures.value c.index.ensures) ∙ c.key.ensures) c.size_of-size.result c.size_of-size.ensures c.resize.new.self c.resize.ensures _ (item_there c.self.inside.table c.self.inside.entries c.self.inside.segments c.args.self.now c.self.invariant c.self.view_is c.args.id c.index_mut-entry.result.now c.index_mut-entry.ensures.value)).joined

pub returns-clause-was : goal.returns-clause-was
returns-clause-was c = λ item there. c.replace-was.ensures.value ∙ sym (ap (λ (i : Item). i.body) (item_is c.self.inside.table c.self.inside.entries c.self.inside.segments c.args.self.now c.self.invariant c.self.view_is c.args.id c.index_mut-entry.result.now c.index_mut-entry.ensures.value item there))

pub returns-clause-now : goal.returns-clause-now
returns-clause-now c = λ item there. (rw c.replace-was.ensures.after (bodied c.self.inside.table c.self.inside.entries c.self.inside.segments c.args.self.now c.self.invariant c.self.view_is c.args.id c.index_mut-entry.result.now c.index_mut-entry.ensures.value c.args.body c.key.result.now (ap (λ (e : Entry). get c.self.inside.table.keys e.key.number) (one_value (slot_at c.self.inside.entries c.args.id.key) c.index_mut-entry.result.now c.index.result.now c.index_mut-entry.ensures.value c.index.ensures) ∙ c.key.ensures) c.size_of-size.result c.size_of-size.ensures c.resize.new.self c.resize.ensures item there).view)
