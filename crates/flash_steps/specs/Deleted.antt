-- What a delete makes of its key.
use Rattle.std.specs.Prelude.{◌≡◌, ℕ, List, Option, None, Some}
use Rattle.std.specs.FinMap as map
use Rattle.flash_entry.specs.declared.answer.Gone.TheVariants as gone
use Rattle.flash_machine.specs.Item.{Item}
use Rattle.flash_machine.specs.Cache.{Cache}
use Rattle.flash_machine.specs.Deleting.{delete_step}
use Rattle.flash_steps.specs.Others.{OthersStay}

-- the key has no item, and each other key has what it had
pub record IsGone (key : List ℕ) (old new : Cache) : Type 0 where
  pub none : map.get new.items key ≡ None
  pub others : OthersStay key old.items new.items

-- a deleted key has no item
abbrev pub ADeletedKeyHasNoItem : Type 0
ADeletedKeyHasNoItem = (c : Cache) (key : List ℕ) (compare : Option ℕ) (live : Option Item)
    → (delete_step c key compare live).0 ≡ gone.Deleted → IsGone key c (delete_step c key compare live).1

-- a key is deleted where it has a live item, and no CAS number is given, or the item's
abbrev pub AKeyIsDeletedByItsNumber : Type 0
AKeyIsDeletedByItsNumber = (c : Cache) (key : List ℕ) (item : Item)
    → ((delete_step c key None (Some item)).0 ≡ gone.Deleted)
    × ((compare : ℕ) → item.cas ≡ compare → (delete_step c key (Some compare) (Some item)).0 ≡ gone.Deleted)
    × ((compare : ℕ) → (delete_step c key (Some compare) (Some item)).0 ≡ gone.Deleted → item.cas ≡ compare)
