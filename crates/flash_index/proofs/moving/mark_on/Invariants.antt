use Rattle.std.proofs.Common.{length}
use Rattle.flash_names.specs.declared.place.ItemId.{ItemId}
use Rattle.flash_lru.specs.Lists.{list_of}
use Rattle.flash_index.specs.Walk.{up_to, item_before}
use Rattle.flash_index.proofs.MarkWalks.{Marks}
use Rattle.flash_index.proofs.moving.mark_on.Given as goal

-- the next item is the one before the mark
abbrev pub invariant-cards : goal.invariant-cards
invariant-cards l = Marks l.items l.fn.segment l.bounds l.mark l.next

-- the cards up to the next one
abbrev pub decreases-cards : goal.decreases-cards
decreases-cards l = length (up_to l.next (list_of l.fn.segment l.items.lists))
