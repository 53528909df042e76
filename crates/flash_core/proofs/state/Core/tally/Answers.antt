use Rattle.std.proofs.Common.{◌≡◌, ◌^◌, ◌-◌, ◌∷◌, [], refl, sym, ◌∙◌, ap, subst, rules}
use Rattle.std.specs.Prelude.{min}
use Rattle.flash_names.specs.Told.{with_more}
use Rattle.flash_names.specs.declared.place.Id.{Id}
use Rattle.flash_entry.specs.declared.answer.Tally.{Tally}
use Rattle.flash_entry.specs.declared.entry.Done.TheVariants as deeds
use Rattle.flash_entry.specs.declared.entry.Entry.TheVariants as entries
use Rattle.flash_machine.specs.Load.{load_of}
use Rattle.flash_pages.specs.PageTable.{free_count}
use Rattle.flash_calls.specs.Calls.{tally_now, tally_call}
use Rattle.flash_calls.specs.Store.{Store}
use Rattle.flash_core.specs.Desks.{desk_of}
use Rattle.flash_core.specs.Numbers.{cache_of_items}
use Rattle.flash_core.specs.Sound.{IsNewTold}
use Rattle.flash_core.proofs.Closing.{keeps_of, sound_by}
use Rattle.flash_core.proofs.state.Core.tally.Goals as goal

pub invariant_of-self-2 : goal.invariant_of-self-2
invariant_of-self-2 g c =
    let f = c.self.inside in
    let s = f.index in
    let before = cache_of_items s.items f.numbers in
    let desk = desk_of s f.blocks in
    let told = g.J.Journal.told f.journal in
    let new : IsNewTold told c.args.id = subst (λ (s : Store). IsNewTold s.told c.args.id) (sym c.self.view_is) c.requires in
    let load : c.load.result ≡ min (load_of s.items) (2 ^ 64 - 1) = search rules in
    let pages : c.from.result ≡ free_count f.blocks.pages = search rules in
    let tally : ◌≡◌ {A = Tally} (record { items = c.len.result; load = c.load.result; last_cas = f.numbers.last_cas; now = f.numbers.moment; free_pages = c.from.result }) (tally_now before desk) =
    (λ j. record { items = c.len.ensures j; load = load j; last_cas = f.numbers.last_cas; now = f.numbers.moment; free_pages = pages j }) in
    sound_by f.geometry s.memory before desk told c.self.invariant (λ (i : Id). tally_call before desk i) c.args.id (λ i. refl) (λ i. refl)
    (λ h i is new. c.each_tally_goes_on.ensures f.geometry before h desk i is new) new s.memory before desk (g.J.Journal.told c.note.new.self)
    (record {
      cache_is = refl;
      desk_is = refl;
      noted = c.in_ok-note.ensures.noted ∙ ap (λ (t : Tally). with_more (entries.Did c.args.id (deeds.Stats t) ∷ []) told) tally;
      memory_is = refl;
    })
    (keeps_of f.geometry s.memory before desk told c.self.invariant)
