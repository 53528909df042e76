use Rattle.flash_lru.specs.Lists.{list_of}
use Rattle.flash_index.specs.Walk.{up_to, card_may_move}
use Rattle.flash_index.proofs.Walks.{Begins}
use Rattle.std.proofs.Common.{length}
use Rattle.flash_index.proofs.moving.last_to_move.Given as goal

-- no card behind the next one passes
abbrev pub invariant-cards : goal.invariant-cards
invariant-cards l = Begins (card_may_move l.rule l.items.items) (list_of l.fn.segment l.items.lists) l.next

-- the cards up to the next one
abbrev pub decreases-cards : goal.decreases-cards
decreases-cards l = length (up_to l.next (list_of l.fn.segment l.items.lists))
