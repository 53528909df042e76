-- What a touch makes of its key's item.
use Rattle.std.specs.Prelude.{◌≡◌, ℕ, ℤ, List, Some}
use Rattle.std.specs.FinMap as map
use Rattle.flash_machine.specs.Item.{Item}
use Rattle.flash_machine.specs.Cache.{Cache}
use Rattle.flash_machine.specs.Moments.{deadline}
use Rattle.flash_machine.specs.Touching.{touch_step}
use Rattle.flash_steps.specs.Others.{OthersStay}

-- the key's item has this deadline and is else what it was, each other key has what it had, and no number changes
pub record HasDeadlineAlone (key : List ℕ) (exptime : ℤ) (item : Item) (old new : Cache) : Type 0 where
  pub there : map.get new.items key ≡ Some (record item { deadline = deadline exptime old.now })
  pub others : OthersStay key old.items new.items
  pub numbers : new ≡ record old { items = new.items }

-- a touch changes the deadline and nothing else
abbrev pub ATouchChangesTheDeadlineAlone : Type 0
ATouchChangesTheDeadlineAlone = (c : Cache) (key : List ℕ) (exptime : ℤ) (item : Item)
    → HasDeadlineAlone key exptime item c (touch_step c key exptime (Some item)).1
