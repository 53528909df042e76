-- What a contract sees of `Segments`.
use Rattle.std.specs.Prelude.{ℕ, ◌+◌, ◌<◌, List, [], count_by}
use Rattle.flash_names.specs.declared.place.ItemId.{ItemId}
use Rattle.flash_lru.specs.declared.segment.Segment.{Segment}
use Rattle.flash_lru.specs.declared.segment.Segment.TheVariants.{Hot, Warm, Cold}
use Rattle.flash_lru.specs.declared.card.Card.{Card}
use Rattle.flash_lru.specs.Card.{is_of}

-- the three lists, front first; the number below which each item number may get a card without memory; and
-- the memory of which HOT and WARM have their shares, in bytes
pub record SegmentLists : Type 0 where
  pub hot : List Card
  pub warm : List Card
  pub cold : List Card
  pub spare : ℕ
  pub memory : ℕ

-- three empty lists
abbrev pub empty_lists : ℕ → SegmentLists
empty_lists memory = record { hot = []; warm = []; cold = []; spare = 0; memory = memory }

-- the list of a segment
abbrev pub list_of : Segment → SegmentLists → List Card
list_of Hot s = s.hot
list_of Warm s = s.warm
list_of Cold s = s.cold

-- how many cards of the three lists are this item's
abbrev pub cards_of : ItemId → SegmentLists → ℕ
cards_of item s = count_by (is_of item) s.hot + count_by (is_of item) s.warm + count_by (is_of item) s.cold

-- one of the three lists has the item's card
abbrev pub HasCard : SegmentLists → ItemId → Type 0
HasCard s item = 0 < cards_of item s
