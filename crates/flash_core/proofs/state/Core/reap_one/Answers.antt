use Rattle.std.proofs.Common.{◌≡◌, ℕ, List, Option, refl, ◌∙◌, subst}
use Rattle.std.specs.Option.{option_map}
use Rattle.std.proofs.lemmas.Result.{IfOk-weaker}
use Rattle.flash_names.specs.Told.{with_more}
use Rattle.flash_calls.specs.Rooms.{Leaver, to_reap, reap_call}
use Rattle.flash_calls.specs.Store.{Store}
use Rattle.flash_core.specs.Desks.{desk_of}
use Rattle.flash_core.specs.Numbers.{cache_of_items}
use Rattle.flash_core.specs.Rooms.{AreLeavers, HasDropped}
use Rattle.flash_core.proofs.Dropped.{drop_answer, after_drop, sound_either}
use Rattle.flash_core.proofs.Fitting.{fit_of}
use Rattle.flash_core.proofs.state.Core.reap_one.Goals as goal

pub drop_item-requires-clause-keys : goal.drop_item-requires-clause-keys
drop_item-requires-clause-keys g c = λ key item there. (c.self.invariant.kept key item there).named

pub drop_item-requires-clause-fit : goal.drop_item-requires-clause-fit
drop_item-requires-clause-fit g c =
    let f = c.self.inside in
    fit_of f.geometry f.index.memory (cache_of_items f.index.items f.numbers) f.index f.blocks (g.J.Journal.told f.journal) refl c.self.invariant

pub invariant_of-self : goal.invariant_of-self
invariant_of-self g c =
    let f = c.self.inside in
    let s = f.index in
    let before = cache_of_items s.items f.numbers in
    let desk = desk_of s f.blocks in
    sound_either f.geometry s f.blocks c.drop_item.new.index c.drop_item.new.blocks f.numbers (g.J.Journal.told f.journal) (g.J.Journal.told c.drop_item.new.journal)
    c.drop_item.result c.leaving_last-leaver.result (to_reap before desk) c.leaving_last-leaver.ensures
    c.drop_item.ensures.dropped c.drop_item.ensures.told c.drop_item.ensures.index c.drop_item.ensures.blocks
    c.self.invariant (λ h is. c.each_reaping_goes_on.ensures f.geometry before h desk is)

pub leaving_last-leaver-requires : goal.leaving_last-leaver-requires
leaving_last-leaver-requires g c =
    let f = c.self.inside in
    fit_of f.geometry f.index.memory (cache_of_items f.index.items f.numbers) f.index f.blocks (g.J.Journal.told f.journal) refl c.self.invariant

pub returns-clause-ok : goal.returns-clause-ok
returns-clause-ok g c =
    let f = c.self.inside in
    let s = f.index in
    let told = g.J.Journal.told f.journal in
    let told_now = g.J.Journal.told c.drop_item.new.journal in
    let ready = g.J.Journal.ready c.drop_item.new.journal in
    let leaver = to_reap (cache_of_items s.items f.numbers) (desk_of s f.blocks) in
    let view_now : Store = record {
      geometry = f.geometry;
      told = told_now;
      ready = ready;
      cache = cache_of_items c.drop_item.new.index.items f.numbers;
      desk = desk_of c.drop_item.new.index c.drop_item.new.blocks;
    } in
    let call_of = λ (s : Store). reap_call s.cache s.desk in
    IfOk-weaker c.drop_item.result
    (λ answer. (is : Option Leaver) → AreLeavers s c.leaving_last-leaver.result is → HasDropped is told told_now s f.blocks c.drop_item.new.index c.drop_item.new.blocks) _
    (λ answer dropped.
    subst (λ (s : Store). ◌≡◌ {A = Store} view_now (record s { told = with_more (call_of s).entries s.told; ready = ready; cache = (call_of s).cache; desk = (call_of s).desk })) c.self.view_is
    (after_drop f.geometry s f.blocks c.drop_item.new.index c.drop_item.new.blocks f.numbers told told_now ready leaver (dropped leaver c.leaving_last-leaver.ensures)))
    c.drop_item.ensures.dropped

pub returns-clause-answer : goal.returns-clause-answer
returns-clause-answer g c =
    let f = c.self.inside in
    let s = f.index in
    let before = cache_of_items s.items f.numbers in
    let desk = desk_of s f.blocks in
    let leaver = to_reap before desk in
    IfOk-weaker c.drop_item.result
    (λ answer. (is : Option Leaver) → AreLeavers s c.leaving_last-leaver.result is → answer ≡ option_map (λ (one : Leaver). one.key) is) _
    (λ answer named.
    subst (λ (s : Store). answer ≡ (reap_call s.cache s.desk).answer) c.self.view_is (named leaver c.leaving_last-leaver.ensures ∙ drop_answer s.items f.numbers desk leaver))
    c.drop_item.ensures.answer
