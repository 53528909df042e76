-- The item that is there.
use Rattle.std.proofs.Common.{◌≡◌, ℕ, true, List, Option, None, Some, refl}
use Rattle.std.specs.Prelude.{is_some}
use Rattle.flash_names.specs.declared.place.ItemId.{ItemId}
use Rattle.flash_machine.specs.Item.{Item}
use Rattle.flash_index.specs.IndexState.{IndexState, Names, AreNamed}
use Rattle.flash_calls.specs.Rooms.{Leaver}
use Rattle.flash_core.specs.declared.room.Leaver as code
use Rattle.flash_core.specs.Rooms.{IsLeaver, AreLeavers}

-- an option that is some has a value
pub item_there : (found : Option Item) → is_some found ≡ true → (item : Item) × (found ≡ Some item)
item_there None is = absurd (cc is)
item_there (Some item) is = (item, refl)

-- the key that an id names
pub named_key : (s : IndexState) (id : ItemId) (key : Option (List ℕ)) → AreNamed s (Some id) key → (k : List ℕ) × (key ≡ Some k) × Names s id k
named_key s id None is = absurd is
named_key s id (Some k) is = (k, refl, is)

-- what leaves, by its key and its cause
pub record IsNamedLeaver (s : IndexState) (one : code.Leaver) (leaver : Option Leaver) : Type 0 where
  pub it : Leaver
  pub is : leaver ≡ Some it
  pub leaves : IsLeaver s one it

pub named_leaver : (s : IndexState) (one : code.Leaver) (leaver : Option Leaver) → AreLeavers s (Some one) leaver → IsNamedLeaver s one leaver
named_leaver s one None is = absurd is
named_leaver s one (Some it) is = record { it = it; is = refl; leaves = is }
