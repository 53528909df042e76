use Rattle.std.proofs.Common.{Option, ◌≡◌, sym, ◌∙◌, ap, subst, length}
use Rattle.std.specs.Prelude.{◌<◌}
use Rattle.flash_names.specs.declared.place.ItemId.{ItemId}
use Rattle.flash_lru.specs.Lists.{list_of}
use Rattle.flash_index.specs.declared.move_rule.MoveBounds.{MoveBounds}
use Rattle.flash_index.specs.Walk.{last_passing, up_to, item_before, card_may_move}
use Rattle.flash_index.specs.Marking.{mark_of, IsMark}
use Rattle.flash_index.proofs.Walks.{Steps, begins, found_here, goes_on}
use Rattle.flash_index.proofs.moving.last_to_move.Goals as goal

pub before_mark-next-requires : goal.before_mark-next-requires
before_mark-next-requires c = subst (λ m. IsMark c.args.marks.now.bounds c.args.items.now.items m (list_of c.args.segment c.args.items.now.lists)) (sym c.of.ensures) (c.requires.marks c.args.segment)

pub cards-init : goal.cards-init
cards-init c =
    begins c.args.items.now c.is_in_step.ensures c.args.rule.now c.args.segment (mark_of c.args.segment c.args.marks.now) c.before_mark-next.result
    (subst (λ (b : MoveBounds). IsMark b c.args.items.now.items (mark_of c.args.segment c.args.marks.now) (list_of c.args.segment c.args.items.now.lists)) c.requires.bounds (c.requires.marks c.args.segment))
    (c.before_mark-next.ensures ∙ ap (λ m. item_before m (list_of c.args.segment c.args.items.now.lists)) c.of.ensures)

pub returns-then-allows : goal.returns-then-allows
returns-then-allows c =
    found_here c.args.items.now c.is_in_step.ensures c.args.rule.now c.args.segment c.in-Some.id c.item-item.result.key.now c.item-item.result.parts.now c.item-item.ensures
    (c.cards.invariant.inside c.in-Some.id c.in-Some.is) c.cards.next c.in-Some.is (sym c.allows.ensures ∙ c.if-allows.true) c.cards.invariant.same

pub cards-preserved : goal.cards-preserved
cards-preserved c =
    let test = card_may_move c.args.rule.now c.args.items.now.items in
    let list = list_of c.args.segment c.args.items.now.lists in
    let steps : Steps test c.in-Some.id list c.before-next.result =
    goes_on c.args.items.now c.is_in_step.ensures c.args.rule.now c.args.segment c.in-Some.id c.item-item.result.key.now c.item-item.result.parts.now c.item-item.ensures
    (c.cards.invariant.inside c.in-Some.id c.in-Some.is) c.before-next.result c.before-next.ensures (sym c.allows.ensures ∙ c.if-allows.false) in
    record {
      inside = steps.inside;
      same = c.cards.invariant.same ∙ ap (λ (o : Option ItemId). last_passing test (up_to o list)) c.in-Some.is ∙ steps.same;
    }

pub cards-smaller : goal.cards-smaller
cards-smaller c =
    let test = card_may_move c.args.rule.now c.args.items.now.items in
    let list = list_of c.args.segment c.args.items.now.lists in
    let steps : Steps test c.in-Some.id list c.before-next.result =
    goes_on c.args.items.now c.is_in_step.ensures c.args.rule.now c.args.segment c.in-Some.id c.item-item.result.key.now c.item-item.result.parts.now c.item-item.ensures
    (c.cards.invariant.inside c.in-Some.id c.in-Some.is) c.before-next.result c.before-next.ensures (sym c.allows.ensures ∙ c.if-allows.false) in
    subst (λ (o : Option ItemId). length (up_to c.before-next.result list) < length (up_to o list)) (sym c.in-Some.is) steps.shorter
