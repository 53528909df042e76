use Rattle.std.proofs.Common.{sym, ◌∙◌, ap}
use Rattle.flash_index.proofs.Walks.{there_in}
use Rattle.flash_index.proofs.MarkWalks.{next_inside, moves_on, less_is_left}
use Rattle.flash_index.proofs.moving.mark_on.Goals as goal

pub cards-init : goal.cards-init
cards-init c = record { is = c.requires; at = c.before_mark-next.ensures }

pub item-item-requires : goal.item-item-requires
item-item-requires c =
    there_in c.args.items.now c.is_in_step.ensures c.args.segment c.in-Some.id
    (next_inside c.args.items.now c.is_in_step.ensures c.args.segment c.args.bounds c.cards.mark c.cards.next c.in-Some.id c.cards.invariant c.in-Some.is)

pub before-next-requires : goal.before-next-requires
before-next-requires c =
    there_in c.args.items.now c.is_in_step.ensures c.args.segment c.in-Some.id
    (next_inside c.args.items.now c.is_in_step.ensures c.args.segment c.args.bounds c.cards.mark c.cards.next c.in-Some.id c.cards.invariant c.in-Some.is)

pub returns-then-allow : goal.returns-then-allow
returns-then-allow c = c.cards.invariant.is

pub cards-preserved : goal.cards-preserved
cards-preserved c =
    moves_on c.args.items.now c.is_in_step.ensures c.args.segment c.args.bounds c.cards.mark c.cards.next c.in-Some.id c.cards.invariant c.in-Some.is
    c.item-item.result.key.now c.item-item.result.parts.now c.item-item.ensures c.before-next.result c.before-next.ensures (sym c.allow.ensures ∙ c.if-allow.false)

pub cards-smaller : goal.cards-smaller
cards-smaller c =
    less_is_left c.args.items.now c.is_in_step.ensures c.args.segment c.args.bounds c.cards.mark c.cards.next c.in-Some.id c.cards.invariant c.in-Some.is
    c.item-item.result.key.now c.item-item.result.parts.now c.item-item.ensures c.before-next.result c.before-next.ensures

pub returns : goal.returns
returns c = c.cards.invariant.is
