-- Room for one key more.
use Rattle.std.specs.Prelude.{ℕ, ◌<◌, List}
use Rattle.slab.specs.Slab.{Slab, HasRoomFor}
use Rattle.flash_keys.specs.Classes.{Classes}

-- one key more fits in a class with no allocation, at an index below 2^29
pub record IsRoomy (class : Slab (List ℕ)) : Type 0 where
  pub room : HasRoomFor class 1
  pub low : class.vacant_key < 536870912

-- one key more of any length fits with no allocation
pub record HasRoom (store : Classes) : Type 0 where
  pub to_14 : IsRoomy store.to_14
  pub to_22 : IsRoomy store.to_22
  pub to_30 : IsRoomy store.to_30
  pub to_46 : IsRoomy store.to_46
  pub to_62 : IsRoomy store.to_62
  pub to_94 : IsRoomy store.to_94
  pub to_126 : IsRoomy store.to_126
  pub to_254 : IsRoomy store.to_254
