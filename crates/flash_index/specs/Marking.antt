-- How far the lists are known to have no item that can move. No public clause cites this module.
use Rattle.std.specs.Prelude.{◌≡◌, ℕ, ◌<◌, Bool, false, nat_eq, List, [], ◌∷◌, count_by, Option, None, Some, if◌then◌else◌}
use Rattle.std.specs.List.{AllByRecursion}
use Rattle.std.specs.FinMap.{get}
use Rattle.flash_names.specs.declared.place.ItemId.{ItemId}
use Rattle.flash_lru.specs.declared.segment.Segment.{Segment}
use Rattle.flash_lru.specs.declared.segment.Segment.TheVariants.{Hot, Warm, Cold}
use Rattle.flash_lru.specs.declared.card.Card.{Card}
use Rattle.flash_lru.specs.Card.{is_of}
use Rattle.flash_lru.specs.Lists.{list_of}
use Rattle.flash_items.specs.declared.item.Item.{Item}
use Rattle.flash_items.specs.ItemsState.{ItemMap, ItemsState}
use Rattle.flash_index.specs.declared.marks.Marks.{Marks}
use Rattle.flash_index.specs.declared.move_rule.MoveBounds.{MoveBounds}
use Rattle.flash_index.specs.Known.{known_item}
use Rattle.flash_index.specs.NextToMove.{can_move}

-- whether there is an item, and it can move
abbrev pub is_movable : MoveBounds → Option Item → Bool
is_movable bounds None = false
is_movable bounds (Some item) = can_move bounds item.key (known_item item)

-- the item of a number can't move
abbrev pub IsFixed : MoveBounds → ItemMap → ℕ → Type 0
IsFixed bounds items number = is_movable bounds (get items number) ≡ false

-- nor can those of these cards
abbrev pub AreFixed : MoveBounds → ItemMap → List Card → Type 0
AreFixed bounds items cards = AllByRecursion (λ card. IsFixed bounds items card.item.key) cards

-- the cards from that of the item on, to the last
abbrev pub from : ItemId → List Card → List Card
from item [] = []
from item (card ∷ cards) = if is_of item card then (card ∷ cards) else from item cards

-- the item of the mark, where there is one, has a card in the list, and from that card on no item can move
abbrev pub IsMark : MoveBounds → ItemMap → Option ItemId → List Card → Type 0
IsMark bounds items None cards = Unit {0}
IsMark bounds items (Some item) cards = (0 < count_by (is_of item) cards) × AreFixed bounds items (from item cards)

-- the mark of a segment's list
abbrev pub mark_of : Segment → Marks → Option ItemId
mark_of Hot marks = marks.hot
mark_of Warm marks = marks.warm
mark_of Cold marks = marks.cold

-- each of the three marks is one
abbrev pub AreMarks : Marks → ItemsState → Type 0
AreMarks marks s = (segment : Segment) → IsMark marks.bounds s.items (mark_of segment marks) (list_of segment s.lists)

-- no marks for these bounds
abbrev pub no_marks : MoveBounds → Marks
no_marks bounds = record { bounds = bounds; hot = None; warm = None; cold = None }

-- a mark after the card of an item left its list, where another mark is given in place of that one
abbrev pub passed : ItemId → Option ItemId → Option ItemId → Option ItemId
passed item other None = None
passed item other (Some mark) = if nat_eq mark.key item.key then other else Some mark

-- the marks after the card of an item, where there is one, left its list
abbrev pub marks_after : Option ItemId → Option ItemId → Marks → Marks
marks_after None other marks = marks
marks_after (Some item) other marks = record marks {
  hot = passed item other marks.hot;
  warm = passed item other marks.warm;
  cold = passed item other marks.cold;
}
