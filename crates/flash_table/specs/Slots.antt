-- What is seen of the slots of chains: the key and the item of each, where it isn't empty.
use Rattle.std.specs.Prelude.{◌≡◌, ℕ, ◌<◌, List, [], map, length, slice_index_or, slice_set, Option, None, Some, IsSome}
use Rattle.flash_keys.specs.Classes.{Classes}
use Rattle.flash_table.specs.declared.entry.Entry.{Entry}
use Rattle.flash_table.specs.Held.{key_and_item}

-- the key and the item of a slot, or none
abbrev pub Slot : Type 0
Slot = Option (List ℕ × ℕ)

-- the slots of these entries
abbrev pub slots_of : Classes → List Entry → List Slot
slots_of store chain = map (key_and_item store) chain

-- the slots of each chain
abbrev pub slots_in : Classes → List (List Entry) → List (List Slot)
slots_in store chains = map (slots_of store) chains

-- the slots of the chain of a home
abbrev pub chain_slots : List (List Slot) → ℕ → List Slot
chain_slots chains h = slice_index_or chains h []

-- the slot i of the chain of a home; none behind the last
abbrev pub slot_at : List (List Slot) → ℕ → ℕ → Slot
slot_at chains h i = slice_index_or (chain_slots chains h) i None

-- the chains after a slot is written
abbrev pub with_slot : List (List Slot) → ℕ → ℕ → Slot → List (List Slot)
with_slot chains h i slot = slice_set chains h (slice_set (chain_slots chains h) i slot)

-- the first empty slot of the chain of the home has this key and its item, and every other slot is unchanged
pub record FillsFirst (old new : List (List Slot)) (h : ℕ) (key : List ℕ) (item : ℕ) : Type 0 where
  pub slot : ℕ
  pub inside : slot < length (chain_slots old h)
  pub empty : slot_at old h slot ≡ None
  pub first : (i : ℕ) → i < slot → IsSome (slot_at old h i)
  pub filled : new ≡ with_slot old h slot (Some (key, item))

-- the slot of the chain of the home that had this key and item is empty, and every other slot is unchanged
pub record Empties (old new : List (List Slot)) (h : ℕ) (key : List ℕ) (item : ℕ) : Type 0 where
  pub slot : ℕ
  pub had : slot_at old h slot ≡ Some (key, item)
  pub emptied : new ≡ with_slot old h slot None
