use Rattle.std.proofs.Common.{sym, ◌∙◌}
use Rattle.flash_core.proofs.store.put_or_drop.Goals as goal

pub give_back-requires : goal.give_back-requires
give_back-requires c = λ place at.
    let key = c.in-Some.item.key in
    let there = c.place_sought-place.ensures key (c.requires.key c.in-Some.item c.in-Some.is) (λ is. c.requires.fit.bare key (c.requires.absent c.in-Some.item c.in-Some.is is)) in
    c.requires.fit.given key place (sym there ∙ at)
