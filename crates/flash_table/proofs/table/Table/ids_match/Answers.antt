use Rattle.std.proofs.Common.{◌≡◌, ℕ, List, Some, subst}
use Rattle.std.specs.FinMap as finite
use Rattle.flash_table.specs.Flat.{flat}
use Rattle.flash_table.specs.Table.{TableState, IdsHaveKeys, HasOneId}
use Rattle.flash_table.proofs.ById.{has_item, has_one_id}
use Rattle.flash_table.proofs.table.Table.ids_match.Goals as goal

pub returns-clause-each : goal.returns-clause-each
returns-clause-each c = subst IdsHaveKeys c.self.view_is (has_item c.self.inside.keys (flat c.self.inside.chains.items) c.self.invariant.chained.sound)

pub returns-clause-one : goal.returns-clause-one
returns-clause-one c =
    let P : TableState → Type 0 = λ t. (key : List ℕ) (item : ℕ) → finite.get t.map key ≡ Some item → HasOneId t.keys key in
    subst P c.self.view_is (has_one_id c.self.inside.keys (flat c.self.inside.chains.items) c.self.invariant.chained.sound)
