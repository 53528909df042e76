-- The eight size classes of a store of keys.
use Rattle.std.specs.Prelude.{ℕ, List}
use Rattle.slab.specs.Slab.{Slab}

-- the keys of each class by index; a class is named by the most bytes of its keys
pub record Classes : Type 0 where
  pub to_14 : Slab (List ℕ)
  pub to_22 : Slab (List ℕ)
  pub to_30 : Slab (List ℕ)
  pub to_46 : Slab (List ℕ)
  pub to_62 : Slab (List ℕ)
  pub to_94 : Slab (List ℕ)
  pub to_126 : Slab (List ℕ)
  pub to_254 : Slab (List ℕ)
