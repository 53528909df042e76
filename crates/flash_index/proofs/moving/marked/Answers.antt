use Rattle.std.proofs.Common.{Option, subst}
use Rattle.flash_names.specs.declared.place.ItemId.{ItemId}
use Rattle.flash_lru.specs.declared.segment.Segment.TheVariants.{Hot, Warm, Cold}
use Rattle.flash_lru.specs.Lists.{list_of}
use Rattle.flash_index.specs.declared.move_rule.MoveBounds.{MoveBounds}
use Rattle.flash_index.specs.Marking.{IsMark}
use Rattle.flash_index.proofs.moving.marked.Goals as goal

pub mark_on-requires : goal.mark_on-requires
mark_on-requires c = subst (λ (b : MoveBounds). IsMark b c.args.items.now.items c.known_marks-known.result.hot (list_of Hot c.args.items.now.lists)) c.known_marks-known.ensures.bounds (c.known_marks-known.ensures.marks Hot)

pub mark_on-requires-2 : goal.mark_on-requires-2
mark_on-requires-2 c = subst (λ (b : MoveBounds). IsMark b c.args.items.now.items c.known_marks-known.result.warm (list_of Warm c.args.items.now.lists)) c.known_marks-known.ensures.bounds (c.known_marks-known.ensures.marks Warm)

pub mark_on-requires-3 : goal.mark_on-requires-3
mark_on-requires-3 c = subst (λ (b : MoveBounds). IsMark b c.args.items.now.items c.known_marks-known.result.cold (list_of Cold c.args.items.now.lists)) c.known_marks-known.ensures.bounds (c.known_marks-known.ensures.marks Cold)
