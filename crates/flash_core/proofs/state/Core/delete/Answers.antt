use Rattle.std.proofs.Common.{◌≡◌, ℕ, [], ◌∷◌, ◌++◌, List, Option, refl, sym, ◌∙◌, ap, subst, rules}
use Rattle.std.specs.Option.{option_copied}
use Rattle.std.specs.FinMap as map
use Rattle.flash_names.specs.Told.{with_more}
use Rattle.flash_names.specs.declared.place.Id.{Id}
use Rattle.flash_entry.specs.declared.answer.Gone.{Gone}
use Rattle.flash_entry.specs.declared.entry.Done.TheVariants as deeds
use Rattle.flash_entry.specs.declared.entry.Entry.{Entry}
use Rattle.flash_entry.specs.declared.entry.Entry.TheVariants as entries
use Rattle.flash_machine.specs.Cache.{Cache, Items}
use Rattle.flash_machine.specs.Item.{Item}
use Rattle.flash_machine.specs.Deleting.{delete_step}
use Rattle.flash_calls.specs.Calls.{delete_command, delete_call}
use Rattle.flash_calls.specs.Store.{Desk, Call, Store}
use Rattle.flash_core.specs.Changes.{AreLeft, is_going, items_if_going, desk_if_going, swept_items}
use Rattle.flash_core.specs.Desks.{desk_of}
use Rattle.flash_core.specs.Items.{known_live}
use Rattle.flash_core.specs.Noting.{entries_of_sweep}
use Rattle.flash_core.specs.Numbers.{cache_of_items}
use Rattle.flash_core.specs.Sound.{IsNewTold}
use Rattle.flash_core.specs.Sought.{cause_sought, live_of}
use Rattle.flash_core.proofs.Closing.{keeps_of, sound_by}
use Rattle.flash_core.proofs.CommandKept.{delete_keeps}
use Rattle.flash_core.proofs.Commanded.{IsCall, is_call, deletes}
use Rattle.flash_core.proofs.Fitting.{fit_of}
use Rattle.flash_core.proofs.state.Core.delete.Goals as goal

pub seek-sought-requires : goal.seek-sought-requires
seek-sought-requires g c =
    let f = c.self.inside in
    fit_of f.geometry f.index.memory (cache_of_items f.index.items f.numbers) f.index f.blocks (g.J.Journal.told f.journal) refl c.self.invariant

pub delete_or_drop-requires-clause-fit : goal.delete_or_drop-requires-clause-fit
delete_or_drop-requires-clause-fit g c =
    let f = c.self.inside in
    fit_of f.geometry f.index.memory (cache_of_items f.index.items f.numbers) f.index f.blocks (g.J.Journal.told f.journal) refl c.self.invariant

module _ (g : _) (c : goal.After-delete_or_drop g) where
  abbrev key : List ℕ
  key = c.args.key.now

  abbrev before : Cache
  before = cache_of_items c.self.inside.index.items c.self.inside.numbers

  abbrev desk : Desk
  desk = desk_of c.self.inside.index c.self.inside.blocks

  abbrev call : Id → Call Gone
  call id = delete_call before desk id key c.args.compare

  -- the desk as the call leaves it
  abbrev desk_now : Desk
  desk_now = desk_of c.delete_or_drop.new.index c.delete_or_drop.new.blocks

  abbrev answer : Gone
  answer = c.gone_of-answer.result

  left : AreLeft c.self.inside.index.memory (items_if_going (is_going c.seek-sought.result answer) key c.self.inside.index.items)
      (desk_if_going (is_going c.seek-sought.result answer) key desk) c.delete_or_drop.new.index c.delete_or_drop.new.blocks
  left = c.delete_or_drop.ensures key c.seek-sought.ensures.id

  deleted : IsCall c.self.inside.index.items c.self.inside.numbers desk key (delete_command key c.args.compare) c.args.id (cause_sought c.seek-sought.result) answer
      (cache_of_items (items_if_going (is_going c.seek-sought.result answer) key c.self.inside.index.items) c.self.inside.numbers)
      (desk_if_going (is_going c.seek-sought.result answer) key desk) (call c.args.id)
  deleted =
      let f = c.self.inside in
      let s = f.index in
      let sought = c.seek-sought.result in
      let live : known_live key (option_copied c.live_parts.result) ≡ live_of sought (map.get s.items key) = c.live_parts.ensures.found key c.seek-sought.ensures.id in
      let swept = cache_of_items (swept_items (cause_sought sought) key s.items) f.numbers in
      is_call (delete_command key c.args.compare) s f.blocks f.numbers key c.args.id sought answer _ _ c.seek-sought.ensures
      (deletes s.items f.numbers desk key c.args.compare sought (map.get s.items key) c.seek-sought.ensures.there answer
      (c.gone_of-answer.ensures swept key ∙ ap (λ (l : Option Item). (delete_step swept key c.args.compare l).0) live))

  cache_is : cache_of_items c.delete_or_drop.new.index.items c.self.inside.numbers ≡ (call c.args.id).cache
  cache_is = ap (λ (m : Items). cache_of_items m c.self.inside.numbers) left.items_are ∙ deleted.cache_is

  desk_is : desk_now ≡ (call c.args.id).desk
  desk_is = left.desk_is ∙ deleted.desk_is

  noted : g.J.Journal.told c.note_behind.new.journal ≡ with_more (call c.args.id).entries (g.J.Journal.told c.self.inside.journal)
  noted =
      let told = g.J.Journal.told c.self.inside.journal in
      let first : g.J.Journal.told c.note_behind.new.journal
      ≡ with_more (entries_of_sweep key (cause_sought c.seek-sought.result) ++ entries.Did c.args.id (deeds.Delete key c.args.compare answer) ∷ []) told = search rules in
      first ∙ ap (λ (es : List Entry). with_more es told) deleted.entries_are

pub invariant_of-self-2 : goal.invariant_of-self-2
invariant_of-self-2 g c =
    let f = c.self.inside in
    let s = f.index in
    let told = g.J.Journal.told f.journal in
    let new : IsNewTold told c.args.id = subst (λ (s : Store). IsNewTold s.told c.args.id) (sym c.self.view_is) c.requires in
    sound_by f.geometry s.memory (before g c) (desk g c) told c.self.invariant (call g c) c.args.id (λ i. refl) (λ i. refl)
    (λ h i is new. c.each_delete_goes_on.ensures f.geometry (before g c) h (desk g c) i (key g c) c.args.compare is new) new
    c.delete_or_drop.new.index.memory (cache_of_items c.delete_or_drop.new.index.items f.numbers) (desk_now g c) (g.J.Journal.told c.note_behind.new.journal)
    (record { cache_is = cache_is g c; desk_is = desk_is g c; noted = noted g c; memory_is = (left g c).memory_is })
    (delete_keeps f.geometry.item_max (before g c) (desk g c) (keeps_of f.geometry s.memory (before g c) (desk g c) told c.self.invariant) c.args.id (key g c) c.args.compare)

pub returns-clause-ok : goal.returns-clause-ok
returns-clause-ok g c =
    let f = c.self.inside in
    let call_of = λ (s : Store). delete_call s.cache s.desk c.args.id c.args.key.now c.args.compare in
    let ready = g.J.Journal.ready c.note_behind.new.journal in
    let view_now : Store = record {
      geometry = f.geometry;
      told = g.J.Journal.told c.note_behind.new.journal;
      ready = ready;
      cache = cache_of_items c.delete_or_drop.new.index.items f.numbers;
      desk = desk_now g c;
    } in
    subst (λ (s : Store). ◌≡◌ {A = Store} view_now (record s { told = with_more (call_of s).entries s.told; ready = ready; cache = (call_of s).cache; desk = (call_of s).desk })) c.self.view_is
    (λ j. record { geometry = f.geometry; told = noted g c j; ready = ready; cache = cache_is g c j; desk = desk_is g c j })

pub returns-clause-answer : goal.returns-clause-answer
returns-clause-answer g c =
    subst (λ (s : Store). c.gone_of-answer.result ≡ (delete_call s.cache s.desk c.args.id c.args.key.now c.args.compare).answer) c.self.view_is (deleted g c).answer_is
