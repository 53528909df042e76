use Rattle.std.proofs.Common.{Option, subst, sym, ◌∙◌, ap}
use Rattle.flash_names.specs.declared.place.ItemId.{ItemId}
use Rattle.flash_lru.specs.Lists.{list_of}
use Rattle.flash_index.specs.Walk.{item_before}
use Rattle.flash_index.specs.Marking.{IsMark}
use Rattle.flash_index.proofs.Walks.{there_in, before_in}
use Rattle.flash_index.proofs.moving.before_mark.Goals as goal

pub before-previous-requires : goal.before-previous-requires
before-previous-requires c =
    there_in c.args.items.now c.is_in_step.ensures c.args.segment c.in-Some.id
    (subst (λ (o : Option ItemId). IsMark c.args.bounds c.args.items.now.items o (list_of c.args.segment c.args.items.now.lists)) c.in-Some.is c.requires).0

pub returns-in-Some : goal.returns-in-Some
returns-in-Some c =
    c.before-previous.ensures
    ∙ before_in c.in-Some.id c.args.items.now.lists c.args.segment (c.is_in_step.ensures.once c.in-Some.id)
    (subst (λ (o : Option ItemId). IsMark c.args.bounds c.args.items.now.items o (list_of c.args.segment c.args.items.now.lists)) c.in-Some.is c.requires).0
    ∙ sym (ap (λ (o : Option ItemId). item_before o (list_of c.args.segment c.args.items.now.lists)) c.in-Some.is)
