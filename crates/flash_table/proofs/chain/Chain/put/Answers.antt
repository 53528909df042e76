use Rattle.std.proofs.Common.{◌++◌, List, ap, ◌∙◌, set, arith}
use Rattle.flash_table.specs.declared.entry.Entry.{Entry}
use Rattle.flash_table.proofs.Behind.{first_set, behind_set}
use Rattle.flash_table.proofs.chain.Chain.put.Goals as goal

pub returns-then-slot-lt16 : goal.returns-then-slot-lt16
returns-then-slot-lt16 c =
    ap (λ (es : List Entry). es ++ c.self.inside.overflow) c.put.ensures.written
    ∙ first_set c.self.inside.first c.self.inside.overflow c.self.invariant c.args.slot c.args.entry (omega (arith, c.if-slot-lt16.true))
    ∙ ap (λ (es : List Entry). set es c.args.slot c.args.entry) c.self.view_is

pub returns-else-slot-lt16 : goal.returns-else-slot-lt16
returns-else-slot-lt16 c =
    ap (λ (es : List Entry). c.self.inside.first ++ es) c.put-else-slot-lt16.ensures
    ∙ behind_set c.self.inside.first c.self.inside.overflow c.self.invariant c.args.slot c.args.entry (omega (arith, c.if-slot-lt16.false))
    ∙ ap (λ (es : List Entry). set es c.args.slot c.args.entry) c.self.view_is
