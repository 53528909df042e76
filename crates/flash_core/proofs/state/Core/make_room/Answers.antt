use Rattle.std.proofs.Common.{refl}
use Rattle.flash_calls.specs.Rooms.{to_evict}
use Rattle.flash_core.specs.Desks.{desk_of}
use Rattle.flash_core.specs.Numbers.{cache_of_items}
use Rattle.flash_core.proofs.Dropped.{sound_either}
use Rattle.flash_core.proofs.Fitting.{fit_of}
use Rattle.flash_core.proofs.state.Core.make_room.Goals as goal

pub drop_item-requires-clause-keys : goal.drop_item-requires-clause-keys
drop_item-requires-clause-keys g c = λ key item there. (c.self.invariant.kept key item there).named

pub drop_item-requires-clause-fit : goal.drop_item-requires-clause-fit
drop_item-requires-clause-fit g c =
    let f = c.self.inside in
    fit_of f.geometry f.index.memory (cache_of_items f.index.items f.numbers) f.index f.blocks (g.J.Journal.told f.journal) refl c.self.invariant

pub invariant_of-self : goal.invariant_of-self
invariant_of-self g c =
    let f = c.self.inside in
    let s = f.index in
    let before = cache_of_items s.items f.numbers in
    let desk = desk_of s f.blocks in
    sound_either f.geometry s f.blocks c.drop_item.new.index c.drop_item.new.blocks f.numbers (g.J.Journal.told f.journal) (g.J.Journal.told c.drop_item.new.journal)
    c.drop_item.result c.leaving_next-leaver.result (to_evict f.geometry before desk) c.leaving_next-leaver.ensures
    c.drop_item.ensures.dropped c.drop_item.ensures.told c.drop_item.ensures.index c.drop_item.ensures.blocks
    c.self.invariant (λ h is. c.each_room_goes_on.ensures f.geometry before h desk is)
