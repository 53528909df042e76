use Rattle.std.proofs.Common.{◌≡◌, ℕ, ◌<◌, ◌^◌, false, Option, None, Some, refl, sym, ◌∙◌, ap, subst}
use Rattle.std.specs.Prelude.{is_some, option_copied}
use Rattle.std.proofs.lemmas.Result.{IfOk-weaker}
use Rattle.flash_entry.specs.declared.answer.Stored.{Stored}
use Rattle.flash_machine.specs.Item.{Item}
use Rattle.flash_machine.specs.Live.{live_item}
use Rattle.flash_machine.specs.Storing.{stored_item, with_stored, refusal, store_outcome}
use Rattle.flash_machine.specs.Followed.{FollowsCache}
use Rattle.flash_machine.proofs.machine.cache_table.CacheTable.store.Goals as goal

not_some : (found : Option Stored) → is_some found ≡ false → found ≡ None
not_some None none = refl
not_some (Some answer) none = absurd (cc none)

pub returns-clause-stored : goal.returns-clause-stored
returns-clause-stored c = IfOk-weaker c.put_stored.result _ _ (λ _ stored g h d pages was.
    let put = c.args.put.now in
    let geometry = c.args.geometry.now in
    let live = live_item h d put.key in
    let seen : option_copied c.live-live.result ≡ live = c.live-live.ensures g h d pages was in
    let none : c.refusal.result ≡ None = not_some c.refusal.result (sym c.is_some.ensures ∙ c.if-is_some.false) in
    let refuses : refusal geometry d put live ≡ None = ap (refusal geometry d put) (sym seen) ∙ sym (c.refusal.ensures.exact d was) ∙ none in
    let item : c.in_ok-item.item ≡ stored_item d put put.mode live = c.in_ok-item.ensures d was ∙ ap (stored_item d put put.mode) seen in
    let room : d.last_cas < 2 ^ 63 = subst (λ (n : ℕ). n < 2 ^ 63) (sym was.last_cas) (c.refusal.ensures.room (sym c.is_some.ensures ∙ c.if-is_some.false)) in
    subst (λ (r : Option Stored). FollowsCache c.put_stored.new.self (store_outcome r d put.key (stored_item d put put.mode live)).1) (sym refuses)
    (subst (λ (i : Item). FollowsCache c.put_stored.new.self (with_stored d put.key i)) item (stored d was room))) c.put_stored.ensures.stored
