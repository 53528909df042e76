use Rattle.std.proofs.Common.{ap, sym, ◌∙◌, length, set, arith}
use Rattle.flash_table.proofs.Groups.{joined_set, joined_length}
use Rattle.flash_table.proofs.group.Group.put.Goals as goal

pub returns-clause-written : goal.returns-clause-written
returns-clause-written c =
    let g = c.self.inside in
    joined_set g.tags g.ids g.items c.args.slot c.args.entry (omega arith) (omega arith) ∙ ap (λ es. set es c.args.slot c.args.entry) c.self.view_is

pub returns-clause-whole : goal.returns-clause-whole
returns-clause-whole c =
    let g = c.self.inside in
    sym (ap length c.self.view_is) ∙ joined_length g.tags g.ids g.items (omega arith) (omega arith) ∙ c.self.invariant.0
