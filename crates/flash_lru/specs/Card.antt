-- The cards of items.
use Rattle.std.specs.Prelude.{ℕ, Bool, false, nat_eq}
use Rattle.flash_names.specs.declared.place.ItemId.{ItemId}
use Rattle.flash_lru.specs.declared.card.Card.{Card}

-- the card is this item's
abbrev pub is_of : ItemId → Card → Bool
is_of item card = nat_eq card.item.key item.key

-- a card that is not active
abbrev pub idle : ItemId → ℕ → Card
idle item size = record { item = item; size = size; active = false }
