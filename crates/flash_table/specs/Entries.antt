-- The entries of slots.
use Rattle.std.specs.Prelude.{◌≡◌, ℕ, List, [], ◌∷◌, replicate, slice_index_or, Some}
use Rattle.flash_keys.specs.Classes.{Classes}
use Rattle.flash_keys.specs.Names.{named}
use Rattle.flash_keys.specs.declared.key_id.KeyId.{KeyId}
use Rattle.flash_table.specs.declared.entry.Entry.{Entry}

-- what an empty slot has
abbrev pub vacant : Entry
vacant = record { tag = 0; id = record { number = 0 }; item = 0 }

-- what n empty slots have
abbrev pub vacants : ℕ → List Entry
vacants n = replicate n vacant

-- what a slot has
abbrev pub entry_at : List Entry → ℕ → Entry
entry_at entries slot = slice_index_or entries slot vacant

-- the entries of a group, whose tags, ids and items lie apart
abbrev pub joined : List ℕ → List KeyId → List ℕ → List Entry
joined [] ids items = []
joined (tag ∷ tags) [] items = []
joined (tag ∷ tags) (id ∷ ids) [] = []
joined (tag ∷ tags) (id ∷ ids) (item ∷ items) = record { tag = tag; id = id; item = item } ∷ joined tags ids items

-- an entry with this tag, whose id names this key
pub record IsFor (store : Classes) (tag : ℕ) (key : List ℕ) (entry : Entry) : Type 0 where
  pub tagged : entry.tag ≡ tag
  pub names : named store entry.id.number ≡ Some key
