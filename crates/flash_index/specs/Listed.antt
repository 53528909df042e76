-- That the three lists have the items' keys.
use Rattle.std.specs.Prelude.{◌≡◌, ℕ, List, Some, is_some, option_map, if◌then◌else◌}
use Rattle.std.specs.List.{AllByRecursion}
use Rattle.std.specs.FinMap.{get}
use Rattle.flash_machine.specs.Cache.{Items}
use Rattle.flash_machine.specs.Load.{item_load}
use Rattle.flash_index.specs.KeyLists.{KeyCard, KeyLists, cards_of}

-- the card's key has an item, of the card's size
abbrev pub IsSized : Items → KeyCard → Type 0
IsSized items card = option_map (item_load card.key) (get items card.key) ≡ Some card.size

-- each key that has an item has one card in the three lists together, no other key has one, and each card has its
-- item's size
pub record IsListed (items : Items) (lists : KeyLists) : Type 0 where
  pub one : (key : List ℕ) → cards_of key lists ≡ (if is_some (get items key) then 1 else 0)
  pub hot : AllByRecursion (IsSized items) lists.hot
  pub warm : AllByRecursion (IsSized items) lists.warm
  pub cold : AllByRecursion (IsSized items) lists.cold
