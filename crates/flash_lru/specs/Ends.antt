-- Which cards are last, and which is before another.
use Rattle.std.specs.Prelude.{List, [], ◌∷◌, Option, None, Some, option_map, if◌then◌else◌}
use Rattle.std.specs.List.{last_or}
use Rattle.std.specs.Option.{option_or}
use Rattle.flash_names.specs.declared.place.ItemId.{ItemId}
use Rattle.flash_lru.specs.declared.card.Card.{Card}
use Rattle.flash_lru.specs.Card.{is_of}
use Rattle.flash_lru.specs.Lists.{SegmentLists}

-- the last card of a list
abbrev pub last_card : List Card → Option Card
last_card cards = last_or None cards

-- the item of the last card
abbrev pub last_item : List Card → Option ItemId
last_item cards = option_map (λ card. card.item) (last_card cards)

-- the last of COLD, else of WARM, else of HOT
abbrev pub last_out : SegmentLists → Option ItemId
last_out s = option_or (last_item s.cold) (option_or (last_item s.warm) (last_item s.hot))

-- the item of the card directly before the item's, where the one before the list is given
abbrev pub before_from : Option ItemId → ItemId → List Card → Option ItemId
before_from previous item [] = None
before_from previous item (card ∷ cards) =
    if is_of item card then previous else before_from (Some card.item) item cards

-- the item of the card directly before the item's in its list
abbrev pub before : ItemId → SegmentLists → Option ItemId
before item s =
    option_or (before_from None item s.hot) (option_or (before_from None item s.warm) (before_from None item s.cold))
