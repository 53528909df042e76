-- What the calls make of the three lists.
use Rattle.std.specs.Prelude.{ℕ, true, not, List, ◌∷◌, map, filter, if◌then◌else◌}
use Rattle.flash_names.specs.declared.place.ItemId.{ItemId}
use Rattle.flash_lru.specs.declared.segment.Segment.{Segment}
use Rattle.flash_lru.specs.declared.segment.Segment.TheVariants.{Hot, Warm, Cold}
use Rattle.flash_lru.specs.declared.card.Card.{Card}
use Rattle.flash_lru.specs.Card.{is_of, idle}
use Rattle.flash_lru.specs.Lists.{SegmentLists}

-- the list without the item's card
abbrev pub without : ItemId → List Card → List Card
without item cards = filter (λ card. not (is_of item card)) cards

-- the item's card is taken away
abbrev pub removed : ItemId → SegmentLists → SegmentLists
removed item s = record s { hot = without item s.hot; warm = without item s.warm; cold = without item s.cold }

-- the card is put at a segment's front
abbrev pub put_front : Segment → Card → SegmentLists → SegmentLists
put_front Hot card s = record s { hot = card ∷ s.hot }
put_front Warm card s = record s { warm = card ∷ s.warm }
put_front Cold card s = record s { cold = card ∷ s.cold }

-- the item's card, not active, is at a segment's front and nowhere else
abbrev pub moved : Segment → ItemId → ℕ → SegmentLists → SegmentLists
moved segment item size s = put_front segment (idle item size) (removed item s)

-- the list with the item's card changed
abbrev pub with_change : ItemId → (Card → Card) → List Card → List Card
with_change item change cards = map (λ card. if is_of item card then change card else card) cards

-- the item's card is changed where it is
abbrev pub changed : ItemId → (Card → Card) → SegmentLists → SegmentLists
changed item change s = record s {
  hot = with_change item change s.hot;
  warm = with_change item change s.warm;
  cold = with_change item change s.cold;
}

-- the item's card is active
abbrev pub touched : ItemId → SegmentLists → SegmentLists
touched item s = changed item (λ card. record card { active = true }) s

-- the item's card has this size
abbrev pub resized : ItemId → ℕ → SegmentLists → SegmentLists
resized item size s = changed item (λ card. record card { size = size }) s
