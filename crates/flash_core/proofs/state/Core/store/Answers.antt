use Rattle.std.proofs.Common.{◌≡◌, ℕ, [], ◌∷◌, ◌++◌, List, Option, refl, sym, ◌∙◌, ap, subst, rules}
use Rattle.std.specs.Option.{option_map, option_copied}
use Rattle.std.specs.FinMap as map
use Rattle.flash_names.specs.Told.{with_more}
use Rattle.flash_names.specs.declared.place.Id.{Id}
use Rattle.flash_names.specs.declared.place.ItemId.{ItemId}
use Rattle.flash_entry.specs.declared.answer.Stored.{Stored}
use Rattle.flash_entry.specs.declared.entry.Done.TheVariants as deeds
use Rattle.flash_entry.specs.declared.entry.DropCause.{DropCause}
use Rattle.flash_entry.specs.declared.entry.Entry.{Entry}
use Rattle.flash_entry.specs.declared.entry.Entry.TheVariants as entries
use Rattle.flash_machine.specs.Cache.{Cache, Items}
use Rattle.flash_machine.specs.Item.{Item}
use Rattle.flash_index.specs.IndexState.{IndexState}
use Rattle.flash_calls.specs.Calls.{store_command, store_call}
use Rattle.flash_calls.specs.Store.{Desk, Call, Store}
use Rattle.flash_core.specs.declared.choice.Choice.{Choice}
use Rattle.flash_core.specs.Changes.{AreLeft, items_after_store, desk_after_store}
use Rattle.flash_core.specs.Desks.{desk_of}
use Rattle.flash_core.specs.Items.{known_live}
use Rattle.flash_core.specs.Noting.{entries_of_sweep}
use Rattle.flash_core.specs.Numbers.{cache_of_items}
use Rattle.flash_core.specs.Sound.{IsNewTold}
use Rattle.flash_core.specs.Sought.{cause_sought, live_of}
use Rattle.flash_core.proofs.Closing.{keeps_of, sound_by}
use Rattle.flash_core.proofs.Commanded.{numbered, Does, IsCall, is_call}
use Rattle.flash_core.proofs.Fitting.{fit_of, fit_with_room}
use Rattle.flash_core.proofs.Kept.{store_keeps}
use Rattle.flash_core.proofs.Small.{small_body}
use Rattle.flash_core.proofs.Stored.{stores}
use Rattle.flash_core.proofs.state.Core.store.Goals as goal

pub seek-sought-requires : goal.seek-sought-requires
seek-sought-requires g c =
    let f = c.self.inside in
    fit_of f.geometry f.index.memory (cache_of_items f.index.items f.numbers) f.index f.blocks (g.J.Journal.told f.journal) refl c.self.invariant

-- the key's id, after room was made
pub put_or_drop-requires-clause-id : goal.put_or_drop-requires-clause-id
put_or_drop-requires-clause-id g c = λ id at. (
  c.args.put.now.key,
  ap (λ (s : IndexState). map.get s.ids c.args.put.now.key) c.reserve_one.ensures.same
      ∙ sym c.seek-sought.ensures.id ∙ ap (option_map (λ (i : ItemId). i.key)) at,
)

pub put_or_drop-requires-clause-fit : goal.put_or_drop-requires-clause-fit
put_or_drop-requires-clause-fit g c =
    let f = c.self.inside in
    fit_with_room f.index c.reserve_one.new.self f.blocks c.reserve_one.ensures.same
    (fit_of f.geometry f.index.memory (cache_of_items f.index.items f.numbers) f.index f.blocks (g.J.Journal.told f.journal) refl c.self.invariant)

pub put_or_drop-requires-clause-key : goal.put_or_drop-requires-clause-key
put_or_drop-requires-clause-key g c = λ item at.
    c.seek-sought.ensures.id ∙ ap (λ (s : IndexState). map.get s.ids c.args.put.now.key) (sym c.reserve_one.ensures.same)
    ∙ ap (map.get c.reserve_one.new.self.ids) (sym (c.in_ok-choice.ensures.key item at))

pub put_or_drop-requires-clause-absent : goal.put_or_drop-requires-clause-absent
put_or_drop-requires-clause-absent g c = λ item at absent.
    ap (λ (s : IndexState). map.get s.items item.key) c.reserve_one.ensures.same
    ∙ ap (map.get c.self.inside.index.items) (c.in_ok-choice.ensures.key item at) ∙ c.seek-sought.ensures.absent absent

pub put_or_drop-requires-clause-small : goal.put_or_drop-requires-clause-small
put_or_drop-requires-clause-small g c = λ item at.
    let fits = c.in_ok-choice.ensures.fits item at in
    (small_body item.body c.self.inside.geometry.item_max fits.0 c.self.invariant.passes.item_max.0, fits.1)

module _ (g : _) (c : goal.After-self-1 g) where
  abbrev key : List ℕ
  key = c.args.put.now.key

  abbrev before : Cache
  before = cache_of_items c.self.inside.index.items c.self.inside.numbers

  abbrev desk : Desk
  desk = desk_of c.self.inside.index c.self.inside.blocks

  abbrev call : Id → Call Stored
  call id = store_call c.self.inside.geometry before desk id c.args.put.now

  abbrev cause : Option DropCause
  cause = cause_sought c.seek-sought.result

  abbrev choice : Choice
  choice = c.in_ok-choice.choice

  -- the heads and the desk as the call leaves them
  abbrev cache_now : Cache
  cache_now = cache_of_items c.put_or_drop.new.index.items (numbered c.self.inside.numbers choice.last_cas)

  abbrev desk_now : Desk
  desk_now = desk_of c.put_or_drop.new.index c.put_or_drop.new.blocks

  left : AreLeft c.reserve_one.new.self.memory (items_after_store key cause choice.item c.reserve_one.new.self.items)
      (desk_after_store key cause choice.item (desk_of c.reserve_one.new.self c.self.inside.blocks)) c.put_or_drop.new.index c.put_or_drop.new.blocks
  left =
      c.put_or_drop.ensures key (c.seek-sought.ensures.id ∙ ap (λ (s : IndexState). map.get s.ids key) (sym c.reserve_one.ensures.same)) c.in_ok-choice.ensures.key

  stored : IsCall c.self.inside.index.items c.self.inside.numbers desk key (store_command c.self.inside.geometry c.args.put.now) c.args.id cause choice.answer
      (cache_of_items (items_after_store key cause choice.item c.self.inside.index.items) (numbered c.self.inside.numbers choice.last_cas))
      (desk_after_store key cause choice.item desk) (call c.args.id)
  stored =
      let f = c.self.inside in
      let s = f.index in
      let sought = c.seek-sought.result in
      let put = c.args.put.now in
      let command = store_command f.geometry put in
      let made = cache_of_items (items_after_store key cause choice.item s.items) (numbered f.numbers choice.last_cas) in
      let found = known_live key (option_copied c.live_parts-live.result) in
      let live : found ≡ live_of sought (map.get s.items key) = c.live_parts-live.ensures.found key c.seek-sought.ensures.id in
      is_call command s f.blocks f.numbers key c.args.id sought choice.answer made (desk_after_store key cause choice.item desk) c.seek-sought.ensures
      (subst (λ (l : Option Item). Does s.items f.numbers desk key command cause l choice.answer made (desk_after_store key cause choice.item desk)) live
      (stores f.geometry s.items f.numbers desk put cause found choice.answer choice.item choice.last_cas (c.in_ok-choice.ensures.chosen s.items)))

  cache_is : cache_now ≡ (call c.args.id).cache
  cache_is =
      ap (λ (m : Items). cache_of_items m (numbered c.self.inside.numbers choice.last_cas))
      (left.items_are ∙ ap (λ (s : IndexState). items_after_store key cause choice.item s.items) c.reserve_one.ensures.same)
      ∙ stored.cache_is

  desk_is : desk_now ≡ (call c.args.id).desk
  desk_is = left.desk_is ∙ ap (λ (s : IndexState). desk_after_store key cause choice.item (desk_of s c.self.inside.blocks)) c.reserve_one.ensures.same ∙ stored.desk_is

  noted : g.J.Journal.told c.note_behind.new.journal ≡ with_more (call c.args.id).entries (g.J.Journal.told c.self.inside.journal)
  noted =
      let told = g.J.Journal.told c.self.inside.journal in
      let first : g.J.Journal.told c.note_behind.new.journal
      ≡ with_more (entries_of_sweep key cause ++ entries.Did c.args.id (deeds.Store c.args.put.now choice.answer) ∷ []) told = search rules in
      first ∙ ap (λ (es : List Entry). with_more es told) stored.entries_are

pub invariant_of-self-2 : goal.invariant_of-self-2
invariant_of-self-2 g c =
    let f = c.self.inside in
    let s = f.index in
    let told = g.J.Journal.told f.journal in
    let put = c.args.put.now in
    let new : IsNewTold told c.args.id = subst (λ (s : Store). IsNewTold s.told c.args.id) (sym c.self.view_is) c.requires in
    sound_by f.geometry s.memory (before g c) (desk g c) told c.self.invariant (call g c) c.args.id (λ i. refl) (λ i. refl)
    (λ h i is new. c.each_store_goes_on.ensures f.geometry (before g c) h (desk g c) i put is new) new
    c.put_or_drop.new.index.memory (cache_now g c) (desk_now g c) (g.J.Journal.told c.note_behind.new.journal)
    (record {
      cache_is = cache_is g c;
      desk_is = desk_is g c;
      noted = noted g c;
      memory_is = (left g c).memory_is ∙ ap (λ (s : IndexState). s.memory) c.reserve_one.ensures.same;
    })
    (store_keeps f.geometry (before g c) (desk g c) c.args.id put c.is_key.ensures c.in_ok-choice.ensures.deadline (keeps_of f.geometry s.memory (before g c) (desk g c) told c.self.invariant))

pub returns-clause-ok : goal.returns-clause-ok
returns-clause-ok g c =
    let f = c.self.inside in
    let call_of = λ (s : Store). store_call s.geometry s.cache s.desk c.args.id c.args.put.now in
    let ready = g.J.Journal.ready c.note_behind.new.journal in
    let view_now : Store = record {
      geometry = f.geometry;
      told = g.J.Journal.told c.note_behind.new.journal;
      ready = ready;
      cache = cache_now g c;
      desk = desk_now g c;
    } in
    subst (λ (s : Store). ◌≡◌ {A = Store} view_now (record s { told = with_more (call_of s).entries s.told; ready = ready; cache = (call_of s).cache; desk = (call_of s).desk })) c.self.view_is
    (λ j. record { geometry = f.geometry; told = noted g c j; ready = ready; cache = cache_is g c j; desk = desk_is g c j })

pub returns-clause-answer : goal.returns-clause-answer
returns-clause-answer g c =
    subst (λ (s : Store). c.in_ok-choice.choice.answer ≡ (store_call s.geometry s.cache s.desk c.args.id c.args.put.now).answer) c.self.view_is (stored g c).answer_is
