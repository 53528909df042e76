-- What the heads of a cache are after an item's value moved to a page, or back into memory.
use Rattle.std.specs.Prelude.{◌≡◌, ℕ, List, Option, None, Some}
use Rattle.std.specs.Option.{option_map}
use Rattle.std.specs.FinMap as finite
use Rattle.flash_names.specs.declared.place.Label.{Label}
use Rattle.flash_machine.specs.Item.{Item, moved_head}
use Rattle.flash_machine.specs.Cache.{Cache}
use Rattle.flash_machine.specs.Steps.{labelled}
use Rattle.flash_heads.specs.Heads.{hidden, heads}

-- the heads with this item under the key
abbrev pub with_head : Cache → List ℕ → Item → Cache
with_head c key item = record c { items = finite.insert c.items key item }

-- after a move the heads have the item with its new label, by the head that they had and by the item
pub record MovesAlike (c : Cache) (key : List ℕ) (label : Label) (item : Item) : Type 0 where
  pub of_item : heads (labelled c key (Some label) (Some item)) ≡ with_head (heads c) key (moved_head label item)
  pub of_head : heads (labelled c key (Some label) (Some item))
      ≡ with_head (heads c) key (moved_head label (hidden item))

-- each move does so
abbrev pub EachMoveIsHidden : Type 0
EachMoveIsHidden = (c : Cache) (key : List ℕ) (label : Label) (item : Item) → MovesAlike c key label item

-- a move over the heads leaves what has the same heads
abbrev pub EachMoveIsThatOfTheHeads : Type 0
EachMoveIsThatOfTheHeads =
    (c : Cache) (key : List ℕ) (label : Label) (found : Option Item)
    → heads (labelled c key (Some label) found) ≡ heads (labelled (heads c) key (Some label) (option_map hidden found))

-- an item whose value is in memory again is known with its value
abbrev pub EachRecachedItemIsKnown : Type 0
EachRecachedItemIsKnown =
    (c : Cache) (key : List ℕ) (item : Item)
    → heads (labelled c key None (Some item)) ≡ with_head (heads c) key (record item { label = None })
