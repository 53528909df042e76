use Rattle.std.proofs.Common.{◌≡◌, ap, ◌∙◌, ◌++◌, ◌∷◌, [], List, length}
use Rattle.flash_table.specs.declared.entry.Entry.{Entry}
use Rattle.flash_table.specs.Flat.{flat}
use Rattle.flash_table.proofs.Flat.{whole_push, flat_push}
use Rattle.flash_table.proofs.overflow.Overflow.add_group.Goals as goal

pushed : (c : goal.After-push_reserved) → c.push_reserved.new.self.items ≡ c.self.inside.groups.items ++ c.empty.result ∷ []
pushed c = c.push_reserved.ensures.items ∙ ap (λ (gs : List (List Entry)). gs ++ c.empty.result ∷ []) c.reserve_exact.ensures.items

pub invariant_of-self-2 : goal.invariant_of-self-2
invariant_of-self-2 c = rw (pushed c) (whole_push c.self.inside.groups.items c.empty.result c.self.invariant (ap length c.empty.ensures))

pub returns-clause-added : goal.returns-clause-added
returns-clause-added c =
    ap flat (pushed c)
    ∙ flat_push c.self.inside.groups.items c.empty.result
    ∙ ap (λ es. es ++ c.empty.result) c.self.view_is
    ∙ ap (λ es. c.args.self.now ++ es) c.empty.ensures
