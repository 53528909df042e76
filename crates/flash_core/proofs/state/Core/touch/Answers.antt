use Rattle.std.proofs.Common.{◌≡◌, ℕ, [], ◌∷◌, ◌++◌, List, Option, refl, sym, ◌∙◌, ap, subst, rules}
use Rattle.std.specs.FinMap as map
use Rattle.flash_names.specs.Told.{with_more}
use Rattle.flash_names.specs.declared.place.Id.{Id}
use Rattle.flash_entry.specs.declared.answer.Touched.{Touched}
use Rattle.flash_entry.specs.declared.entry.Done.TheVariants as deeds
use Rattle.flash_entry.specs.declared.entry.Entry.{Entry}
use Rattle.flash_entry.specs.declared.entry.Entry.TheVariants as entries
use Rattle.flash_machine.specs.Cache.{Cache, Items}
use Rattle.flash_machine.specs.Moments.{deadline}
use Rattle.flash_calls.specs.Calls.{touch_command, touch_call}
use Rattle.flash_calls.specs.Store.{Desk, Call, Store}
use Rattle.flash_core.specs.Changes.{AreLeft, items_after_touch, swept_items, swept_desk}
use Rattle.flash_core.specs.Desks.{desk_of}
use Rattle.flash_core.specs.Items.{HasDeadline}
use Rattle.flash_core.specs.Noting.{entries_of_sweep}
use Rattle.flash_core.specs.Numbers.{cache_of_items}
use Rattle.flash_core.specs.Sound.{IsNewTold}
use Rattle.flash_core.specs.Sought.{cause_sought}
use Rattle.flash_core.proofs.Closing.{keeps_of, sound_by}
use Rattle.flash_core.proofs.CommandKept.{touch_keeps}
use Rattle.flash_core.proofs.Commanded.{IsCall, is_call, touches}
use Rattle.flash_core.proofs.Fitting.{fit_of}
use Rattle.flash_core.proofs.state.Core.touch.Goals as goal

pub seek-sought-requires : goal.seek-sought-requires
seek-sought-requires g c =
    let f = c.self.inside in
    fit_of f.geometry f.index.memory (cache_of_items f.index.items f.numbers) f.index f.blocks (g.J.Journal.told f.journal) refl c.self.invariant

pub renew_or_drop-requires-clause-fit : goal.renew_or_drop-requires-clause-fit
renew_or_drop-requires-clause-fit g c =
    let f = c.self.inside in
    fit_of f.geometry f.index.memory (cache_of_items f.index.items f.numbers) f.index f.blocks (g.J.Journal.told f.journal) refl c.self.invariant

module _ (g : _) (c : goal.After-renew_or_drop g) where
  abbrev key : List ℕ
  key = c.args.key.now

  abbrev before : Cache
  before = cache_of_items c.self.inside.index.items c.self.inside.numbers

  abbrev desk : Desk
  desk = desk_of c.self.inside.index c.self.inside.blocks

  abbrev call : Id → Call Touched
  call id = touch_call before desk id key c.args.exptime

  -- the desk as the call leaves it
  abbrev desk_now : Desk
  desk_now = desk_of c.renew_or_drop.new.index c.renew_or_drop.new.blocks

  abbrev answer : Touched
  answer = c.touched_at-answer.result

  renewed : AreLeft c.self.inside.index.memory (items_after_touch c.deadline_of-deadline.result key c.seek-sought.result c.self.inside.index.items)
      (swept_desk (cause_sought c.seek-sought.result) key desk) c.renew_or_drop.new.index c.renew_or_drop.new.blocks
  renewed = c.renew_or_drop.ensures key c.seek-sought.ensures.id

  touched : IsCall c.self.inside.index.items c.self.inside.numbers desk key (touch_command key c.args.exptime) c.args.id (cause_sought c.seek-sought.result) answer
      (cache_of_items (items_after_touch (deadline c.args.exptime c.self.inside.numbers.moment) key c.seek-sought.result c.self.inside.index.items) c.self.inside.numbers)
      (swept_desk (cause_sought c.seek-sought.result) key desk) (call c.args.id)
  touched =
      let f = c.self.inside in
      let s = f.index in
      let sought = c.seek-sought.result in
      let swept = cache_of_items (swept_items (cause_sought sought) key s.items) f.numbers in
      is_call (touch_command key c.args.exptime) s f.blocks f.numbers key c.args.id sought answer _ _ c.seek-sought.ensures
      (touches s.items f.numbers desk key c.args.exptime sought (map.get s.items key) refl c.seek-sought.ensures.there answer
      (c.touched_at-answer.ensures swept key c.args.exptime))

  deadline_is : c.deadline_of-deadline.result ≡ deadline c.args.exptime c.self.inside.numbers.moment
  deadline_is = search rules

  cache_is : cache_of_items c.renew_or_drop.new.index.items c.self.inside.numbers ≡ (call c.args.id).cache
  cache_is =
      ap (λ (m : Items). cache_of_items m c.self.inside.numbers) renewed.items_are
      ∙ ap (λ (d : Option ℕ). cache_of_items (items_after_touch d key c.seek-sought.result c.self.inside.index.items) c.self.inside.numbers) deadline_is
      ∙ touched.cache_is

  desk_is : desk_now ≡ (call c.args.id).desk
  desk_is = renewed.desk_is ∙ touched.desk_is

  noted : g.J.Journal.told c.note_behind.new.journal ≡ with_more (call c.args.id).entries (g.J.Journal.told c.self.inside.journal)
  noted =
      let told = g.J.Journal.told c.self.inside.journal in
      let first : g.J.Journal.told c.note_behind.new.journal
      ≡ with_more (entries_of_sweep key (cause_sought c.seek-sought.result) ++ entries.Did c.args.id (deeds.Touch key c.args.exptime answer) ∷ []) told = search rules in
      first ∙ ap (λ (es : List Entry). with_more es told) touched.entries_are

pub invariant_of-self-2 : goal.invariant_of-self-2
invariant_of-self-2 g c =
    let f = c.self.inside in
    let s = f.index in
    let told = g.J.Journal.told f.journal in
    let new : IsNewTold told c.args.id = subst (λ (s : Store). IsNewTold s.told c.args.id) (sym c.self.view_is) c.requires in
    sound_by f.geometry s.memory (before g c) (desk g c) told c.self.invariant (call g c) c.args.id (λ i. refl) (λ i. refl)
    (λ h i is new. c.each_touch_goes_on.ensures f.geometry (before g c) h (desk g c) i (key g c) c.args.exptime is new) new
    c.renew_or_drop.new.index.memory (cache_of_items c.renew_or_drop.new.index.items f.numbers) (desk_now g c) (g.J.Journal.told c.note_behind.new.journal)
    (record { cache_is = cache_is g c; desk_is = desk_is g c; noted = noted g c; memory_is = (renewed g c).memory_is })
    (touch_keeps f.geometry.item_max (before g c) (desk g c) (keeps_of f.geometry s.memory (before g c) (desk g c) told c.self.invariant) c.args.id (key g c) c.args.exptime
    (subst (λ (d : Option ℕ). HasDeadline d) (deadline_is g c) c.deadline_of-deadline.ensures.below))

pub returns-clause-ok : goal.returns-clause-ok
returns-clause-ok g c =
    let f = c.self.inside in
    let call_of = λ (s : Store). touch_call s.cache s.desk c.args.id c.args.key.now c.args.exptime in
    let ready = g.J.Journal.ready c.note_behind.new.journal in
    let view_now : Store = record {
      geometry = f.geometry;
      told = g.J.Journal.told c.note_behind.new.journal;
      ready = ready;
      cache = cache_of_items c.renew_or_drop.new.index.items f.numbers;
      desk = desk_now g c;
    } in
    subst (λ (s : Store). ◌≡◌ {A = Store} view_now (record s { told = with_more (call_of s).entries s.told; ready = ready; cache = (call_of s).cache; desk = (call_of s).desk })) c.self.view_is
    (λ j. record { geometry = f.geometry; told = noted g c j; ready = ready; cache = cache_is g c j; desk = desk_is g c j })

pub returns-clause-answer : goal.returns-clause-answer
returns-clause-answer g c =
    subst (λ (s : Store). c.touched_at-answer.result ≡ (touch_call s.cache s.desk c.args.id c.args.key.now c.args.exptime).answer) c.self.view_is (touched g c).answer_is
