use Rattle.std.proofs.Common.{ℕ, ◌<◌, ◌^◌, Option, refl, sym, ◌∙◌, ap, subst}
use Rattle.std.proofs.lemmas.Result.{IfOk-weaker}
use Rattle.flash_machine.specs.Item.{Item}
use Rattle.flash_machine.specs.Storing.{with_stored}
use Rattle.flash_machine.specs.Summing.{sum_step}
use Rattle.flash_machine.specs.Followed.{FollowsCache}
use Rattle.flash_machine.proofs.machine.cache_table.CacheTable.sum.Goals as goal

pub returns-clause-summed : goal.returns-clause-summed
returns-clause-summed c = IfOk-weaker c.put_stored.result _ _ (λ _ stored g h d pages was.
    let ask = c.args.ask.now in
    let seen = c.live-live.ensures g h d pages was in
    let room : d.last_cas < 2 ^ 63 = subst (λ (n : ℕ). n < 2 ^ 63) (sym was.last_cas) (c.in-Some.ensures.room refl) in
    let item = c.in_ok-item.ensures d was in
    let makes = ap (λ (live : Option Item). (sum_step d ask live).1) (sym seen) ∙ c.in-Some.ensures.some d was in
    subst (FollowsCache c.put_stored.new.self) (sym makes)
    (subst (λ (i : Item). FollowsCache c.put_stored.new.self (with_stored d ask.key i)) item (stored d was room))) c.put_stored.ensures.stored
