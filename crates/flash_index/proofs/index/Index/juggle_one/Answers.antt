use Rattle.std.proofs.Common.{◌∙◌, sym, subst}
use Rattle.flash_index.specs.declared.marks.Marks.{Marks}
use Rattle.flash_index.specs.Marking.{AreMarks}
use Rattle.flash_index.proofs.Closings.{juggles, after_juggle}
use Rattle.flash_index.proofs.MarkCalls.{after_juggle as marks_juggled}
use Rattle.flash_index.proofs.index.Index.juggle_one.Goals as goal

pub returns-clause-moved : goal.returns-clause-moved
returns-clause-moved c = c.is_some.ensures ∙ juggles c.self.inside.items c.args.self.now c.self.view_is c.is_in_step.ensures c.juggle_one-moved.result c.juggle_one-moved.ensures.item

pub returns-clause-lists : goal.returns-clause-lists
returns-clause-lists c = after_juggle c.self.inside.items c.args.self.now c.self.view_is c.is_in_step.ensures c.juggle_one-moved.new.self c.juggle_one-moved.ensures.lists

pub invariant_of-self : goal.invariant_of-self
invariant_of-self c =
    subst (λ (m : Marks). AreMarks m c.juggle_one-moved.new.self) (sym c.after-self-inside.ensures)
    (marks_juggled c.self.inside.marks c.self.inside.items c.self.invariant c.juggle_one-moved.new.self c.juggle_one-moved.result c.juggle_one-moved.ensures.item c.juggle_one-moved.ensures.lists)
