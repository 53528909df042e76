-- What an id names.
use Rattle.std.specs.Prelude.{◌≡◌, ◌≢◌, ℕ, ◌/◌, ◌%◌, nat_eq, List, Option, None, if◌then◌else◌}
use Rattle.slab.specs.Slab.{get}
use Rattle.flash_keys.specs.Classes.{Classes}

-- the key at an index of a class, where there is one
abbrev pub key_in : Classes → ℕ → ℕ → Option (List ℕ)
key_in store class index =
    if nat_eq class 0 then get store.to_14 index
    else if nat_eq class 1 then get store.to_22 index
    else if nat_eq class 2 then get store.to_30 index
    else if nat_eq class 3 then get store.to_46 index
    else if nat_eq class 4 then get store.to_62 index
    else if nat_eq class 5 then get store.to_94 index
    else if nat_eq class 6 then get store.to_126 index
    else if nat_eq class 7 then get store.to_254 index
    else None

-- the key that an id names, where it names one: the class is in the top three of its 32 bits
unfoldable pub named : Classes → ℕ → Option (List ℕ)
named store id = key_in store (id / 536870912) (id % 536870912)

-- each id names what it named
abbrev pub SameNames : Classes → Classes → Type 0
SameNames old new = (id : ℕ) → named new id ≡ named old id

-- the id names this, and every other what it named
pub record NamesOnly (old new : Classes) (id : ℕ) (key : Option (List ℕ)) : Type 0 where
  pub here : named new id ≡ key
  pub others : (other : ℕ) → other ≢ id → named new other ≡ named old other
