use Rattle.std.proofs.Common.{refl, sym, ap}
use Rattle.flash_blocks.specs.BlockTable.{BlockTable}
use Rattle.flash_calls.specs.Seals.{seal_call}
use Rattle.flash_core.specs.Desks.{desk_of}
use Rattle.flash_core.specs.Numbers.{cache_of_items}
use Rattle.flash_core.proofs.Closing.{keeps_of, sound_after}
use Rattle.flash_core.proofs.Dropped.{more_none}
use Rattle.flash_core.proofs.state.Core.seal.Goals as goal

pub invariant_of-self : goal.invariant_of-self
invariant_of-self g c =
    let f = c.self.inside in
    let s = f.index in
    let before = cache_of_items s.items f.numbers in
    let desk = desk_of s f.blocks in
    let told = g.J.Journal.told f.journal in
    sound_after f.geometry s.memory before desk told c.self.invariant (seal_call before desk c.args.bucket)
    (λ h is. c.each_seal_goes_on.ensures f.geometry before h desk c.args.bucket is)
    s.memory before (desk_of s c.seal.new.self) told
    (record {
      cache_is = refl;
      desk_is = ap (λ (t : BlockTable). desk_of s t) c.seal.ensures.after;
      noted = sym (more_none told);
      memory_is = refl;
    })
    (keeps_of f.geometry s.memory before desk told c.self.invariant)
