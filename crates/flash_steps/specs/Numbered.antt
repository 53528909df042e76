-- What steps make of the CAS numbers.
use Rattle.std.specs.Prelude.{◌≡◌, ◌≤◌, ℕ, ◌+◌, ◌^◌, List, Option, Some}
use Rattle.std.specs.FinMap as map
use Rattle.flash_names.specs.declared.geometry.Geometry.{Geometry}
use Rattle.flash_entry.specs.declared.ask.Put.{Put}
use Rattle.flash_entry.specs.declared.answer.Stored.TheVariants as stored
use Rattle.flash_machine.specs.Item.{Item}
use Rattle.flash_machine.specs.Cache.{Cache}
use Rattle.flash_machine.specs.Storing.{store_step}

-- the key's item has the number that was given last, which is one above the one before it, and at most 2^63
pub record HasNextNumber (key : List ℕ) (cas : ℕ) (old new : Cache) : Type 0 where
  pub next : cas ≡ old.last_cas + 1
  pub last : new.last_cas ≡ cas
  pub within : cas ≤ 2 ^ 63
  pub item : Item
  pub there : map.get new.items key ≡ Some item
  pub number : item.cas ≡ cas

-- a stored item has the next number
abbrev pub AStoredItemHasTheNextNumber : Type 0
AStoredItemHasTheNextNumber = (g : Geometry) (c : Cache) (put : Put) (live : Option Item) (cas : ℕ)
    → (store_step g c put live).0 ≡ stored.Stored cas → HasNextNumber put.key cas c (store_step g c put live).1
