-- What a contract sees of `Index`.
use Rattle.std.specs.Prelude.{◌≡◌, ℕ, List, Option, None, Some}
use Rattle.std.specs.FinMap.{get}
use Rattle.flash_names.specs.declared.place.ItemId.{ItemId}
use Rattle.flash_items.specs.ItemsState.{Ids}
use Rattle.flash_machine.specs.Cache.{Items}
use Rattle.flash_index.specs.Places.{Places}
use Rattle.flash_index.specs.KeyLists.{KeyLists}

-- each key's item; the place of each value that is on flash; the three lists of the keys; the memory of which HOT and
-- WARM have their shares; each key's id; and how many items more are sure to take no memory
pub record IndexState : Type 0 where
  pub items : Items
  pub places : Places
  pub lists : KeyLists
  pub memory : ℕ
  pub ids : Ids
  pub spare : ℕ

-- the id is that of the key's item
abbrev pub Names : IndexState → ItemId → List ℕ → Type 0
Names s id key = get s.ids key ≡ Some id.key

-- the id is that of some key's item
abbrev pub HasId : IndexState → ItemId → Type 0
HasId s id = (key : List ℕ) × Names s id key

-- the id is that of this key's item, or there is none of both
abbrev pub AreNamed : IndexState → Option ItemId → Option (List ℕ) → Type 0
AreNamed s None None = Unit {0}
AreNamed s (Some id) (Some key) = Names s id key
AreNamed s None (Some key) = ⊥
AreNamed s (Some id) None = ⊥
