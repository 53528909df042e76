use Rattle.std.proofs.Common.{ap, sym, ◌∙◌, length, arith}
use Rattle.flash_table.specs.Entries.{entry_at}
use Rattle.flash_table.proofs.Groups.{joined_at, joined_length}
use Rattle.flash_table.proofs.group.Group.at.Goals as goal

pub returns-clause-same : goal.returns-clause-same
returns-clause-same c =
    let g = c.self.inside in
    sym (joined_at g.tags g.ids g.items c.args.slot (omega arith) (omega arith) (omega arith)) ∙ ap (λ es. entry_at es c.args.slot) c.self.view_is

pub returns-clause-whole : goal.returns-clause-whole
returns-clause-whole c =
    let g = c.self.inside in
    sym (ap length c.self.view_is) ∙ joined_length g.tags g.ids g.items (omega arith) (omega arith) ∙ c.self.invariant.0
