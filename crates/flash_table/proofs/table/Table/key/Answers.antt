use Rattle.std.proofs.Common.{ap, sym, subst, ◌∙◌}
use Rattle.std.specs.Option.{IsSome}
use Rattle.std.specs.FinMap as finite
use Rattle.flash_table.specs.Flat.{flat}
use Rattle.flash_table.specs.Maps.{keys_in}
use Rattle.flash_table.specs.Table.{TableState}
use Rattle.flash_table.proofs.ById.{some_is, named_by}
use Rattle.flash_table.proofs.table.Table.key.Goals as goal

pub unreachable-requires : goal.unreachable-requires
unreachable-requires c =
    let es = flat c.self.inside.chains.items in
    let at = some_is (finite.get (keys_in c.self.inside.keys es) c.args.id.number) (subst (λ (s : TableState). IsSome (finite.get s.keys c.args.id.number)) (sym c.self.view_is) c.requires.id) in
    let named = named_by c.self.inside.keys es c.self.invariant.chained.sound c.args.id.number at.0 at.1 in
    let none = c.in-None.ensures in
    cc

pub returns : goal.returns
returns c =
    let es = flat c.self.inside.chains.items in
    let at = some_is (finite.get (keys_in c.self.inside.keys es) c.args.id.number) (subst (λ (s : TableState). IsSome (finite.get s.keys c.args.id.number)) (sym c.self.view_is) c.requires.id) in
    ap (λ (s : TableState). finite.get s.keys c.args.id.number) (sym c.self.view_is)
    ∙ at.1
    ∙ sym (named_by c.self.inside.keys es c.self.invariant.chained.sound c.args.id.number at.0 at.1)
    ∙ sym c.in-Some.ensures
