use Rattle.std.proofs.Common.{ℕ, sym, ◌∙◌, ap}
use Rattle.flash_calls.specs.Rooms.{juggle_call}
use Rattle.flash_core.specs.Desks.{desk_of}
use Rattle.flash_core.specs.Numbers.{cache_of_items}
use Rattle.flash_core.proofs.Closing.{keeps_of, sound_after}
use Rattle.flash_core.proofs.Dropped.{more_none}
use Rattle.flash_index.specs.IndexState.{IndexState}
use Rattle.flash_core.proofs.state.Core.juggle_one.Goals as goal

pub invariant_of-self : goal.invariant_of-self
invariant_of-self g c =
    let f = c.self.inside in
    let s = f.index in
    let before = cache_of_items s.items f.numbers in
    let desk = desk_of s f.blocks in
    let told = g.J.Journal.told f.journal in
    let after = c.juggle_one.ensures.lists in
    sound_after f.geometry s.memory before desk told c.self.invariant (juggle_call f.geometry before desk)
    (λ h is. c.each_juggling_goes_on.ensures f.geometry before h desk is)
    c.juggle_one.new.self.memory (cache_of_items c.juggle_one.new.self.items f.numbers) (desk_of c.juggle_one.new.self f.blocks) told
    (record {
      cache_is = ap (λ (t : IndexState). cache_of_items t.items f.numbers) after;
      desk_is = ap (λ (t : IndexState). desk_of t f.blocks) after ∙ ap (λ (m : ℕ). (juggle_call record f.geometry { memory = m } before desk).desk) c.self.invariant.shares;
      noted = sym (more_none told);
      memory_is = ap (λ (t : IndexState). t.memory) after;
    })
    (keeps_of f.geometry s.memory before desk told c.self.invariant)
