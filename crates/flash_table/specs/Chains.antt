-- The chains of a table, one for each home.
use Rattle.std.specs.Prelude.{◌≡◌, ℕ, ◌<◌, ◌^◌, List, [], length, slice_index_or, slice_set, Some, ◌++◌, ◌⊎◌}
use Rattle.flash_keys.specs.Classes.{Classes}
use Rattle.flash_names.specs.KeyHash.{hash_of}
use Rattle.flash_table.specs.declared.entry.Entry.{Entry}
use Rattle.flash_table.specs.Entries.{entry_at, vacants, IsFor}
use Rattle.flash_table.specs.Flat.{flat}
use Rattle.flash_table.specs.Held.{key_and_item, HasKey, IsSound}
use Rattle.flash_table.specs.Home.{home}

-- the chain of a home
abbrev pub chain_of : List (List Entry) → ℕ → List Entry
chain_of chains h = slice_index_or chains h []

-- the chains after the entry of a slot is written
abbrev pub with_entry : List (List Entry) → ℕ → ℕ → Entry → List (List Entry)
with_entry chains h i e = slice_set chains h (slice_set (chain_of chains h) i e)

-- a slot of a chain is empty
abbrev pub HasEmpty : List Entry → Type 0
HasEmpty chain = (i : ℕ) × (i < length chain) × ((entry_at chain i).tag ≡ 0)

-- each key is in the chain of its home among n homes
abbrev pub IsHomed : ℕ → Classes → List (List Entry) → Type 0
IsHomed n store chains =
    (h i : ℕ) (key : List ℕ) (item : ℕ) →
    key_and_item store (entry_at (chain_of chains h) i) ≡ Some (key, item) → home n (hash_of key) ≡ h

-- chains whose slots are sound, with each key in the chain of its home; there are 1 to 2^32 - 1 homes
pub record AreChains (store : Classes) (chains : List (List Entry)) : Type 0 where
  pub some : 0 < length chains
  pub few : length chains < 2 ^ 32
  pub sound : IsSound store (flat chains)
  pub homed : IsHomed (length chains) store chains

-- the slot i of the home h has this key
pub record IsSlotOf (store : Classes) (chains : List (List Entry)) (key : List ℕ) (h i : ℕ) : Type 0 where
  pub home_inside : h < length chains
  pub slot_inside : i < length (chain_of chains h)
  pub has : HasKey store (entry_at (chain_of chains h) i) key

-- the slot i of the home h has this id, which names its key
pub record IsSlotOfId (store : Classes) (chains : List (List Entry)) (id h i : ℕ) : Type 0 where
  pub key : List ℕ
  pub slot : IsSlotOf store chains key h i
  pub is_id : (entry_at (chain_of chains h) i).id.number ≡ id

-- the slot i of a chain is for this key, under this tag
pub record IsFound (store : Classes) (chain : List Entry) (tag : ℕ) (key : List ℕ) (i : ℕ) : Type 0 where
  pub inside : i < length chain
  pub is_for : IsFor store tag key (entry_at chain i)

-- no slot of a chain is for this key, under this tag
abbrev pub IsNotFound : Classes → List Entry → ℕ → List ℕ → Type 0
IsNotFound store chain tag key = (i : ℕ) → i < length chain → IsFor store tag key (entry_at chain i) → ⊥

-- the chains after an empty group is added to the chain of a home
abbrev pub with_group : List (List Entry) → ℕ → List (List Entry)
with_group chains h = slice_set chains h (chain_of chains h ++ vacants 16)

-- the chain of the home had an empty slot, or has an empty group more
abbrev pub RoomMade : List (List Entry) → List (List Entry) → ℕ → Type 0
RoomMade old new h = ((new ≡ old) × HasEmpty (chain_of old h)) ⊎ (new ≡ with_group old h)
