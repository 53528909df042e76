use Rattle.std.proofs.Common.{rules, sym, subst}
use Rattle.flash_index.specs.declared.marks.Marks.{Marks}
use Rattle.flash_index.specs.Marking.{AreMarks}
use Rattle.flash_index.proofs.Closings.{added_items, added_places, added_lists, replaced_items, replaced_places, replaced_lists}
use Rattle.flash_index.proofs.MarkCalls.{after_insert, after_replace}
use Rattle.flash_index.proofs.index.Index.put.Goals as goal

pub returns-in-None-clause-items : goal.returns-in-None-clause-items
returns-in-None-clause-items c = added_items c.self.inside.items c.args.self.now c.self.view_is c.is_in_step.ensures c.insert.new.self c.insert.result c.args.item c.args.id c.in-None.is c.requires.id c.insert.ensures.fresh c.insert.ensures.added

pub returns-in-None-clause-places : goal.returns-in-None-clause-places
returns-in-None-clause-places c = added_places c.self.inside.items c.args.self.now c.self.view_is c.is_in_step.ensures c.insert.new.self c.insert.result c.args.item c.args.id c.in-None.is c.requires.id c.insert.ensures.fresh c.insert.ensures.added

pub returns-in-None-clause-lists : goal.returns-in-None-clause-lists
returns-in-None-clause-lists c = added_lists c.self.inside.items c.args.self.now c.self.view_is c.is_in_step.ensures c.insert.new.self c.insert.result c.args.item c.args.id c.in-None.is c.requires.id c.insert.ensures.fresh c.insert.ensures.added

pub returns-in-Some-clause-items : goal.returns-in-Some-clause-items
returns-in-Some-clause-items c =
    (let items = replaced_items c.self.inside.items c.args.self.now c.self.view_is c.is_in_step.ensures c.replace.new.self c.in-Some.id c.args.item c.args.id c.in-Some.is c.requires.id c.replace.ensures.now in
    search (rules, items))

pub returns-in-Some-clause-places : goal.returns-in-Some-clause-places
returns-in-Some-clause-places c =
    (let places = replaced_places c.self.inside.items c.args.self.now c.self.view_is c.is_in_step.ensures c.replace.new.self c.in-Some.id c.args.item c.args.id c.in-Some.is c.requires.id c.replace.ensures.now in
    search (rules, places))

pub returns-in-Some-clause-lists : goal.returns-in-Some-clause-lists
returns-in-Some-clause-lists c =
    (let lists = replaced_lists c.self.inside.items c.args.self.now c.self.view_is c.is_in_step.ensures c.replace.new.self c.in-Some.id c.args.item c.args.id c.in-Some.is c.requires.id c.replace.ensures.now in
    search (rules, lists))

pub invariant_of-self : goal.invariant_of-self
invariant_of-self c = after_insert c.self.inside.marks c.self.inside.items c.self.invariant c.is_in_step.ensures c.insert.result c.insert.ensures.fresh c.insert.new.self c.args.item c.insert.ensures.added

pub invariant_of-self-in-Some : goal.invariant_of-self-in-Some
invariant_of-self-in-Some c =
    subst (λ (m : Marks). AreMarks m c.replace.new.self) (sym c.after-self-inside.ensures)
    (after_replace c.self.inside.marks c.self.inside.items c.self.invariant c.replace.new.self c.in-Some.id c.args.item c.replace.ensures.now)

pub invariant_of-self-in-Some-2 : goal.invariant_of-self-in-Some-2
invariant_of-self-in-Some-2 c =
    subst (λ (m : Marks). AreMarks m c.replace.new.self) (sym c.after-self-inside.ensures)
    (after_replace c.self.inside.marks c.self.inside.items c.self.invariant c.replace.new.self c.in-Some.id c.args.item c.replace.ensures.now)
