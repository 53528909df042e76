use Rattle.std.proofs.Common.{sym, subst}
use Rattle.std.proofs.lemmas.Result.{IfOk-weaker}
use Rattle.flash_names.specs.declared.geometry.Geometry.{Geometry}
use Rattle.flash_entry.specs.declared.entry.Done.{Done}
use Rattle.flash_machine.specs.Live.{live_item}
use Rattle.flash_machine.specs.Storing.{store_step}
use Rattle.flash_machine.specs.Steps.{done_next}
use Rattle.flash_machine.specs.Followed.{FollowsCache}
use Rattle.flash_machine.proofs.machine.Machine.do_step.Goals as goal

pub returns-in-Store-clause-noted : goal.returns-in-Store-clause-noted
returns-in-Store-clause-noted c = IfOk-weaker c.store.result _ _ (λ _ stored g h d same pages was.
    let put = c.in-Store.put in
    subst (λ (done : Done). FollowsCache c.store.new.self (done_next g h d done)) (sym c.in-Store.is)
    (subst (λ (k : Geometry). FollowsCache c.store.new.self (store_step k d put (live_item h d put.key)).1) same (stored g h d pages was))) c.store.ensures.stored

pub returns-in-Touch-clause-noted : goal.returns-in-Touch-clause-noted
returns-in-Touch-clause-noted c = IfOk-weaker c.touch.result _ _ (λ _ touched g h d same pages was.
    subst (λ (done : Done). FollowsCache c.touch.new.self (done_next g h d done)) (sym c.in-Touch.is) (touched g h d pages was)) c.touch.ensures.touched
