use Rattle.std.proofs.Common.{◌≡◌, ℕ, ◌∷◌, ◌++◌, List, length, Option, refl, sym, ◌∙◌, ap, subst, rules}
use Rattle.std.specs.Option.{option_copied}
use Rattle.std.specs.FinMap as map
use Rattle.flash_names.specs.Told.{with_more}
use Rattle.flash_names.specs.declared.place.Id.{Id}
use Rattle.flash_entry.specs.declared.entry.DropCause.{DropCause}
use Rattle.flash_entry.specs.declared.entry.Entry.{Entry}
use Rattle.flash_entry.specs.declared.entry.Entry.TheVariants as entries
use Rattle.flash_entry.specs.declared.entry.Residence.{Residence}
use Rattle.flash_items.specs.declared.item.Parts.{Parts}
use Rattle.flash_index.specs.Known.{known_parts}
use Rattle.flash_machine.specs.Cache.{Cache, Items}
use Rattle.flash_machine.specs.Item.{Item}
use Rattle.flash_machine.specs.Looking.{residence_of}
use Rattle.flash_calls.specs.Lookups.{reading_of, look_call}
use Rattle.flash_calls.specs.Store.{Desk, Call, Store}
use Rattle.flash_calls.specs.declared.found.Found.{Found}
use Rattle.flash_core.specs.Changes.{AreLeft, items_after_look, desk_after_look}
use Rattle.flash_core.specs.Desks.{desk_of}
use Rattle.flash_core.specs.Items.{known_live}
use Rattle.flash_core.specs.Noting.{entries_of_sweep}
use Rattle.flash_core.specs.Numbers.{cache_of_items}
use Rattle.flash_core.specs.Reading.{found_in, place_live, entries_of_buffer}
use Rattle.flash_core.specs.Sound.{IsNewTold}
use Rattle.flash_core.specs.Sought.{cause_sought, live_of}
use Rattle.flash_core.proofs.Closing.{keeps_of, sound_by}
use Rattle.flash_core.proofs.Fitting.{fit_of}
use Rattle.flash_core.proofs.Kept.{look_keeps}
use Rattle.flash_core.proofs.Looked.{LooksAs, looks_as}
use Rattle.flash_core.proofs.Shown.{live_is_there, is_shown}
use Rattle.flash_core.proofs.Told.{TellsAs, tells}
use Rattle.flash_core.proofs.state.Core.look.Goals as goal

pub seek-sought-requires : goal.seek-sought-requires
seek-sought-requires g c =
    let f = c.self.inside in
    fit_of f.geometry f.index.memory (cache_of_items f.index.items f.numbers) f.index f.blocks (g.J.Journal.told f.journal) refl c.self.invariant

pub found_at-requires-clause-shown : goal.found_at-requires-clause-shown
found_at-requires-clause-shown g c = λ parts at.
    let f = c.self.inside in
    let key = c.args.key.now in
    let there = live_is_there key c.seek-sought.result (map.get f.index.items key) (option_copied c.live_parts-live.result) parts (c.live_parts-live.ensures.found key c.seek-sought.ensures.id) at in
    is_shown f.geometry.item_max f.numbers.last_cas key parts (c.self.invariant.kept key (known_parts (length key) parts) there) c.self.invariant.passes.item_max.0

pub drop_or_mark-requires-clause-fit : goal.drop_or_mark-requires-clause-fit
drop_or_mark-requires-clause-fit g c =
    let f = c.self.inside in
    fit_of f.geometry f.index.memory (cache_of_items f.index.items f.numbers) f.index f.blocks (g.J.Journal.told f.journal) refl c.self.invariant

pub drop_or_mark-requires-clause-deadline : goal.drop_or_mark-requires-clause-deadline
drop_or_mark-requires-clause-deadline g c = λ key item there. (c.self.invariant.kept key item there).deadline

module _ (g : _) (c : goal.After-drop_or_mark g) where
  abbrev key : List ℕ
  key = c.args.key.now

  abbrev before : Cache
  before = cache_of_items c.self.inside.index.items c.self.inside.numbers

  abbrev desk : Desk
  desk = desk_of c.self.inside.index c.self.inside.blocks

  abbrev call : Id → Call Found
  call id = look_call before desk id key c.args.look

  abbrev cause : Option DropCause
  cause = cause_sought c.seek-sought.result

  -- the parts of the live item that the code found
  abbrev live : Option Parts
  live = option_copied c.live_parts-live.result

  -- the heads and the desk as the call leaves them
  abbrev cache_now : Cache
  cache_now = cache_of_items c.drop_or_mark.new.index.items c.self.inside.numbers

  abbrev desk_now : Desk
  desk_now = desk_of c.drop_or_mark.new.index c.drop_or_mark.new.blocks

  looks : LooksAs c.self.inside.index c.self.inside.blocks c.self.inside.numbers c.args.id key c.args.look c.seek-sought.result (call c.args.id)
  looks = looks_as c.self.inside.index c.self.inside.blocks c.self.inside.numbers c.args.id key c.args.look c.seek-sought.result c.seek-sought.ensures

  left : AreLeft c.self.inside.index.memory (items_after_look c.args.look.renew c.self.inside.numbers.moment key c.seek-sought.result c.self.inside.index.items)
      (desk_after_look key c.seek-sought.result desk) c.drop_or_mark.new.index c.drop_or_mark.new.blocks
  left = c.drop_or_mark.ensures key c.seek-sought.ensures.id

  live_is : known_live key live ≡ live_of c.seek-sought.result (map.get c.self.inside.index.items key)
  live_is = c.live_parts-live.ensures.found key c.seek-sought.ensures.id

  found_is : c.in_ok-found.found ≡ found_in before c.self.inside.blocks.buffers key c.args.look live
  found_is = c.in_ok-found.ensures.found c.self.inside.index.items c.self.inside.numbers refl

  told_is : TellsAs before c.self.inside.index c.self.inside.blocks c.args.id key c.args.look (place_live live) c.in_ok-found.found (reading_of before desk c.args.id key c.args.look (known_live key live))
  told_is =
      subst (λ (answer : Found).
      TellsAs before c.self.inside.index c.self.inside.blocks c.args.id key c.args.look (place_live live) answer (reading_of before desk c.args.id key c.args.look (known_live key live))) (sym found_is)
      (tells before c.self.inside.index c.self.inside.blocks c.args.id key c.args.look live (c.live_parts-live.ensures.place key c.seek-sought.ensures.id))

  cache_is : cache_now ≡ (call c.args.id).cache
  cache_is = ap (λ (m : Items). cache_of_items m c.self.inside.numbers) left.items_are ∙ looks.cache_is

  desk_is : desk_now ≡ (call c.args.id).desk
  desk_is = left.desk_is ∙ looks.desk_is

  answer_is : c.in_ok-found.found ≡ (call c.args.id).answer
  answer_is = told_is.answer_is ∙ ap (λ (l : Option Item). (reading_of before desk c.args.id key c.args.look l).answer) live_is ∙ looks.answer_is

  noted : g.J.Journal.told c.note_lookup.new.journal ≡ with_more (call c.args.id).entries (g.J.Journal.told c.self.inside.journal)
  noted =
      let told = g.J.Journal.told c.self.inside.journal in
      let swept = entries_of_sweep key cause in
      let looked = λ (r : Residence). entries.Looked c.args.id key c.args.look r in
      let first : g.J.Journal.told c.note_lookup.new.journal
      ≡ with_more (swept ++ looked c.residence_at.result ∷ entries_of_buffer c.args.id live c.in_ok-found.found) told = search rules in
      let residence : c.residence_at.result ≡ residence_of (known_live key live) = c.residence_at.ensures key in
      first
      ∙ ap (λ (r : Residence). with_more (swept ++ looked r ∷ entries_of_buffer c.args.id live c.in_ok-found.found) told) residence
      ∙ ap (λ (es : List Entry). with_more (swept ++ looked (residence_of (known_live key live)) ∷ es) told) told_is.entries_are
      ∙ ap (λ (l : Option Item). with_more (swept ++ looked (residence_of l) ∷ (reading_of before desk c.args.id key c.args.look l).entries) told) live_is
      ∙ ap (λ (es : List Entry). with_more es told) looks.entries_are

pub invariant_of-self-2 : goal.invariant_of-self-2
invariant_of-self-2 g c =
    let f = c.self.inside in
    let s = f.index in
    let told = g.J.Journal.told f.journal in
    let new : IsNewTold told c.args.id = subst (λ (s : Store). IsNewTold s.told c.args.id) (sym c.self.view_is) c.requires in
    sound_by f.geometry s.memory (before g c) (desk g c) told c.self.invariant (call g c) c.args.id (λ i. refl) (λ i. refl)
    (λ h i is new. c.each_lookup_goes_on.ensures f.geometry (before g c) h (desk g c) i (key g c) c.args.look is new) new
    c.drop_or_mark.new.index.memory (cache_now g c) (desk_now g c) (g.J.Journal.told c.note_lookup.new.journal)
    (record { cache_is = cache_is g c; desk_is = desk_is g c; noted = noted g c; memory_is = (left g c).memory_is })
    (look_keeps f.geometry.item_max (before g c) (desk g c) c.args.id (key g c) c.args.look c.renewal_is_below.ensures (keeps_of f.geometry s.memory (before g c) (desk g c) told c.self.invariant))

pub returns-clause-ok : goal.returns-clause-ok
returns-clause-ok g c =
    let f = c.self.inside in
    let call_of = λ (s : Store). look_call s.cache s.desk c.args.id c.args.key.now c.args.look in
    let ready = g.J.Journal.ready c.note_lookup.new.journal in
    let view_now : Store = record {
      geometry = f.geometry;
      told = g.J.Journal.told c.note_lookup.new.journal;
      ready = ready;
      cache = cache_now g c;
      desk = desk_now g c;
    } in
    subst (λ (s : Store). ◌≡◌ {A = Store} view_now (record s { told = with_more (call_of s).entries s.told; ready = ready; cache = (call_of s).cache; desk = (call_of s).desk })) c.self.view_is
    (λ j. record { geometry = f.geometry; told = noted g c j; ready = ready; cache = cache_is g c j; desk = desk_is g c j })

pub returns-clause-answer : goal.returns-clause-answer
returns-clause-answer g c =
    subst (λ (s : Store). c.in_ok-found.found ≡ (look_call s.cache s.desk c.args.id c.args.key.now c.args.look).answer) c.self.view_is (answer_is g c)
