use Rattle.std.proofs.Common.{◌≡◌, [], ◌∷◌, refl, sym, subst, rules}
use Rattle.flash_names.specs.Told.{with_more}
use Rattle.flash_names.specs.declared.place.Id.{Id}
use Rattle.flash_entry.specs.declared.entry.Done.TheVariants as deeds
use Rattle.flash_entry.specs.declared.entry.Entry.TheVariants as entries
use Rattle.flash_machine.specs.Cache.{Cache}
use Rattle.flash_machine.specs.Touching.{flush_next}
use Rattle.flash_calls.specs.Calls.{flush_call}
use Rattle.flash_calls.specs.Store.{Desk, Store}
use Rattle.flash_core.specs.Desks.{desk_of}
use Rattle.flash_core.specs.Numbers.{cache_of_items}
use Rattle.flash_core.specs.Sound.{IsNewTold}
use Rattle.flash_core.proofs.Closing.{keeps_of, sound_by}
use Rattle.flash_core.proofs.CommandKept.{flush_keeps}
use Rattle.flash_core.proofs.state.Core.flush.Goals as goal

module _ (g : _) (c : goal.After-self-1 g) where
  after : cache_of_items c.self.inside.index.items c.flushed_after-self-inside.result ≡ flush_next (cache_of_items c.self.inside.index.items c.self.inside.numbers) c.args.delay
  after = let made = c.flushed_after-self-inside.ensures c.self.inside.index.items in search (rules, made)

  noted : g.J.Journal.told c.note.new.self ≡ with_more (entries.Did c.args.id (deeds.Flush c.args.delay) ∷ []) (g.J.Journal.told c.self.inside.journal)
  noted = search rules

pub invariant_of-self-2 : goal.invariant_of-self-2
invariant_of-self-2 g c =
    let f = c.self.inside in
    let s = f.index in
    let before = cache_of_items s.items f.numbers in
    let desk = desk_of s f.blocks in
    let told = g.J.Journal.told f.journal in
    let new : IsNewTold told c.args.id = subst (λ (s : Store). IsNewTold s.told c.args.id) (sym c.self.view_is) c.requires in
    sound_by f.geometry s.memory before desk told c.self.invariant (λ (i : Id). flush_call before desk i c.args.delay) c.args.id (λ i. refl) (λ i. refl)
    (λ h i is new. c.each_flush_goes_on.ensures f.geometry before h desk i c.args.delay is new) new s.memory (cache_of_items s.items c.flushed_after-self-inside.result) desk (g.J.Journal.told c.note.new.self)
    (record { cache_is = after g c; desk_is = refl; noted = noted g c; memory_is = refl })
    (flush_keeps f.geometry.item_max before (keeps_of f.geometry s.memory before desk told c.self.invariant) c.args.delay)

pub returns-clause-ok : goal.returns-clause-ok
returns-clause-ok g c =
    let f = c.self.inside in
    let call_of = λ (s : Store). flush_call s.cache s.desk c.args.id c.args.delay in
    let ready = g.J.Journal.ready c.note.new.self in
    let view_now : Store = record {
      geometry = f.geometry;
      told = g.J.Journal.told c.note.new.self;
      ready = ready;
      cache = cache_of_items f.index.items c.flushed_after-self-inside.result;
      desk = desk_of f.index f.blocks;
    } in
    subst (λ (s : Store). ◌≡◌ {A = Store} view_now (record s { told = with_more (call_of s).entries s.told; ready = ready; cache = (call_of s).cache; desk = (call_of s).desk })) c.self.view_is
    (λ j. record { geometry = f.geometry; told = noted g c j; ready = ready; cache = after g c j; desk = desk_of f.index f.blocks })
