use Rattle.std.proofs.Common.{ℕ, Option, sym, ◌∙◌, ap, subst}
use Rattle.std.proofs.lemmas.Result.{IfOk-weaker}
use Rattle.std.specs.FinMap as map
use Rattle.flash_machine.specs.Item.{Item}
use Rattle.flash_machine.specs.Moments.{deadline}
use Rattle.flash_machine.specs.Touching.{touch_step}
use Rattle.flash_machine.specs.Followed.{FollowsCache}
use Rattle.flash_machine.proofs.machine.cache_table.CacheTable.touch.Goals as goal

pub returns-clause-touched : goal.returns-clause-touched
returns-clause-touched c = IfOk-weaker c.replace.result _ _ (λ _ replaced g h d pages was.
    let key = c.args.key.now in
    let item = c.in-Some.item.now in
    let changed = c.in_ok-item.ensures was.moment
    ∙ ap (λ (now : ℕ). record item { deadline = deadline c.args.exptime.now now }) (sym was.now) in
    subst (λ (live : Option Item). FollowsCache c.replace.new.self (touch_step d key c.args.exptime.now live).1) (c.in-Some.ensures g h d pages was)
    (subst (λ (i : Item). FollowsCache c.replace.new.self (record d { items = map.insert d.items key i })) changed (replaced d was))) c.replace.ensures.replaced
