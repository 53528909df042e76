-- How a list is searched from its last card to the front. No public clause cites this module.
use Rattle.std.specs.Prelude.{Bool, false, List, [], ◌∷◌, Option, None, Some, if◌then◌else◌}
use Rattle.std.specs.Option.{option_or}
use Rattle.std.specs.FinMap.{get}
use Rattle.flash_names.specs.declared.place.ItemId.{ItemId}
use Rattle.flash_lru.specs.declared.card.Card.{Card}
use Rattle.flash_lru.specs.Card.{is_of}
use Rattle.flash_lru.specs.Ends.{last_item, before_from}
use Rattle.flash_items.specs.declared.item.Item.{Item}
use Rattle.flash_items.specs.ItemsState.{ItemMap}
use Rattle.flash_index.specs.declared.move_rule.MoveRule.{MoveRule}
use Rattle.flash_index.specs.Known.{known_item}
use Rattle.flash_index.specs.NextToMove.{may_move}

-- the last element that passes the test
abbrev pub last_passing : {A : Type 0} → (A → Bool) → List A → Option A
last_passing test [] = None
last_passing test (x ∷ xs) = option_or (last_passing test xs) (if test x then Some x else None)

-- the cards up to that of the item, where there is an item
abbrev pub up_to : Option ItemId → List Card → List Card
up_to None cards = []
up_to (Some item) [] = []
up_to (Some item) (card ∷ cards) = if is_of item card then card ∷ [] else (card ∷ up_to (Some item) cards)

-- the item of the card before that of a mark, or of the last card where there is no mark
abbrev pub item_before : Option ItemId → List Card → Option ItemId
item_before None cards = last_item cards
item_before (Some mark) cards = before_from None mark cards

-- whether there is an item, and it may move
abbrev pub is_moving : MoveRule → Option Item → Bool
is_moving rule None = false
is_moving rule (Some item) = may_move rule item.key (known_item item)

-- whether the card's item may move
abbrev pub card_may_move : MoveRule → ItemMap → Card → Bool
card_may_move rule items card = is_moving rule (get items card.item.key)
