use Rattle.std.proofs.Common.{Option, subst}
use Rattle.std.proofs.lemmas.Result.{IfOk-weaker}
use Rattle.std.specs.FinMap as map
use Rattle.flash_machine.specs.Item.{Item}
use Rattle.flash_machine.specs.Looking.{look_next}
use Rattle.flash_machine.specs.Followed.{FollowsCache}
use Rattle.flash_machine.proofs.machine.cache_table.CacheTable.look.Goals as goal

pub returns-clause-looked : goal.returns-clause-looked
returns-clause-looked c = IfOk-weaker c.replace.result _ _ (λ _ replaced g h d pages was.
    let key = c.args.key.now in
    let found = c.in_ok-item.ensures was.moment d was.now in
    subst (λ (live : Option Item). FollowsCache c.replace.new.self (look_next d key c.args.look live)) (c.in-Some.ensures g h d pages was)
    (subst (λ (item : Item). FollowsCache c.replace.new.self (record d { items = map.insert d.items key item })) found (replaced d was))) c.replace.ensures.replaced
