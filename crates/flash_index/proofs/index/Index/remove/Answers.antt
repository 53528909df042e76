use Rattle.std.proofs.Common.{sym, subst}
use Rattle.flash_index.specs.declared.marks.Marks.{Marks}
use Rattle.flash_index.specs.Marking.{AreMarks}
use Rattle.flash_index.proofs.Closings.{taken_items, taken_places, taken_lists, taken_memory}
use Rattle.flash_index.proofs.MarkCalls.{item_of, after_remove}
use Rattle.flash_index.proofs.index.Index.remove.Goals as goal

pub returns-clause-items : goal.returns-clause-items
returns-clause-items c = taken_items c.self.inside.items c.args.self.now c.self.view_is c.is_in_step.ensures c.remove.new.self c.args.id c.remove.ensures.taken

pub returns-clause-places : goal.returns-clause-places
returns-clause-places c = taken_places c.self.inside.items c.args.self.now c.self.view_is c.is_in_step.ensures c.remove.new.self c.args.id c.remove.ensures.taken

pub returns-clause-lists : goal.returns-clause-lists
returns-clause-lists c = taken_lists c.self.inside.items c.args.self.now c.self.view_is c.is_in_step.ensures c.remove.new.self c.args.id c.remove.ensures.taken

pub returns-clause-memory : goal.returns-clause-memory
returns-clause-memory c = taken_memory c.self.inside.items c.args.self.now c.self.view_is c.is_in_step.ensures c.remove.new.self c.args.id c.remove.ensures.taken c.requires

pub invariant_of-self : goal.invariant_of-self
invariant_of-self c =
    let was = item_of c.self.inside.items c.args.self.now c.self.view_is c.is_in_step.ensures c.args.id c.requires in
    subst (λ (m : Marks). AreMarks m c.remove.new.self) (sym c.after-self-inside.ensures)
    (after_remove c.self.inside.marks c.self.inside.items c.self.invariant c.remove.new.self c.args.id was.0 (c.remove.ensures.taken was.0 was.1))
