use Rattle.std.proofs.Common.{ℕ, List, length, ◌∙◌, ap}
use Rattle.flash_items.specs.Item.{size_of}
use Rattle.flash_items.proofs.Calls.{slot_some, has_card}
use Rattle.flash_items.proofs.Closings.{replaced, was_at}
use Rattle.flash_items.proofs.items.Items.replace.Goals as goal

pub index_mut-entry-requires : goal.index_mut-entry-requires
index_mut-entry-requires c = slot_some c.self.inside.table c.self.inside.entries c.self.inside.segments c.args.self.now c.self.invariant c.self.view_is c.args.id c.requires.there

pub put_hot-requires : goal.put_hot-requires
put_hot-requires c = (c.has_one_each.ensures.once c.args.id).below (has_card c.self.inside.table c.self.inside.entries c.self.inside.segments c.args.self.now c.self.invariant c.self.view_is c.args.id c.requires.there)

pub invariant_of-self : goal.invariant_of-self
invariant_of-self c = (replaced c.self.inside.table c.self.inside.entries c.self.inside.segments c.args.self.now c.self.invariant c.self.view_is c.args.id c.index_mut-entry.result.now c.index_mut-entry.ensures.value c.args.item c.replace-was.new.dest (c.replace-was.ensures.after ∙ c.parts_of.ensures) c.size_of-new_size.result (c.size_of-new_size.ensures ∙ ap (λ (l : List ℕ). size_of (length l) c.args.item.body) c.bytes.ensures.same) c.put_hot.new.self c.put_hot.ensures c.requires.same).joined

pub returns-clause-was : goal.returns-clause-was
returns-clause-was c = was_at c.self.inside.table c.self.inside.entries c.self.inside.segments c.args.self.now c.self.invariant c.self.view_is c.args.id c.index_mut-entry.result.now c.index_mut-entry.ensures.value c.args.item.key c.requires.same c.replace-was.result c.replace-was.ensures.value

pub returns-clause-now : goal.returns-clause-now
returns-clause-now c = (replaced c.self.inside.table c.self.inside.entries c.self.inside.segments c.args.self.now c.self.invariant c.self.view_is c.args.id c.index_mut-entry.result.now c.index_mut-entry.ensures.value c.args.item c.replace-was.new.dest (c.replace-was.ensures.after ∙ c.parts_of.ensures) c.size_of-new_size.result (c.size_of-new_size.ensures ∙ ap (λ (l : List ℕ). size_of (length l) c.args.item.body) c.bytes.ensures.same) c.put_hot.new.self c.put_hot.ensures c.requires.same).view
