-- What is true of the three lists at all times.
use Rattle.std.specs.Prelude.{◌<◌, ◌≤◌}
use Rattle.flash_names.specs.declared.place.ItemId.{ItemId}
use Rattle.flash_lru.specs.Lists.{SegmentLists, cards_of, HasCard}

-- an item has one card at most in the three lists together, and only where its number is below `spare`
pub record HasOneAtMost (s : SegmentLists) (item : ItemId) : Type 0 where
  pub one : cards_of item s ≤ 1
  pub below : HasCard s item → item.key < s.spare
