use Rattle.std.proofs.Common.{◌<◌, ap, sym, ◌∙◌, length, arith}
use Rattle.std.specs.Int.Count.{count_trailing_zeros}
use Rattle.std.proofs.lemmas.Nat.{trailing_le}
use Rattle.flash_table.specs.Entries.{entry_at}
use Rattle.flash_table.proofs.Groups.{joined_at, joined_length, none_before, tag_found}
use Rattle.flash_table.proofs.group.Group.first_tagged.Goals as goal

pub returns-clause-before : goal.returns-clause-before
returns-clause-before c i below is =
    let g = c.self.inside in
    let inside : i < 16 = omega (arith, trailing_le 16 c.tags_equal.result) in
    none_before c.tags_equal.result c.args.tag g.tags (omega arith) c.tags_equal.ensures.bits i below
    (ap (λ e. e.tag) (sym (joined_at g.tags g.ids g.items i (omega arith) (omega arith) (omega arith)) ∙ ap (λ es. entry_at es i) c.self.view_is) ∙ is)

pub returns-clause-found : goal.returns-clause-found
returns-clause-found c inside =
    let g = c.self.inside in
    let i = count_trailing_zeros 16 c.tags_equal.result in
    ap (λ e. e.tag) (sym (sym (joined_at g.tags g.ids g.items i (omega arith) (omega arith) (omega arith)) ∙ ap (λ es. entry_at es i) c.self.view_is))
    ∙ tag_found c.tags_equal.result c.args.tag g.tags (omega arith) c.tags_equal.ensures.bits inside

pub returns-clause-whole : goal.returns-clause-whole
returns-clause-whole c =
    let g = c.self.inside in
    sym (ap length c.self.view_is) ∙ joined_length g.tags g.ids g.items (omega arith) (omega arith) ∙ c.self.invariant.0
