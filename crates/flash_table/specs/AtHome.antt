-- In which slot each key of a table is.
use Rattle.std.specs.Prelude.{◌≡◌, ◌≢◌, ℕ, List, length, Some}
use Rattle.std.specs.FinMap.{get}
use Rattle.flash_table.specs.Home.{split_home}
use Rattle.flash_table.specs.Slots.{slot_at}
use Rattle.flash_table.specs.Table.{TableState, home_in}

-- each key is in one slot, in the chain of its home, with its item, and no other key is in a slot
pub record HasKeysAtHome (t : TableState) : Type 0 where
  pub many : length t.chains ≡ t.homes
  pub at_home : (h i : ℕ) (key : List ℕ) (item : ℕ) → slot_at t.chains h i ≡ Some (key, item) → home_in t key ≡ h
  pub held : (h i : ℕ) (key : List ℕ) (item : ℕ) → slot_at t.chains h i ≡ Some (key, item) → get t.map key ≡ Some item
  pub each :
      (key : List ℕ) (item : ℕ) → get t.map key ≡ Some item
      → (i : ℕ) × (slot_at t.chains (home_in t key) i ≡ Some (key, item))
  pub once :
      (h i j : ℕ) (key : List ℕ) (one other : ℕ) → slot_at t.chains h i ≡ Some (key, one)
      → slot_at t.chains h j ≡ Some (key, other) → i ≡ j

-- each slot is unchanged
abbrev pub SameSlots : TableState → TableState → Type 0
SameSlots old new = (h i : ℕ) → slot_at new.chains h i ≡ slot_at old.chains h i

-- where a home is added, no slot changes but those of the home that is divided and of the new one; else no slot
-- changes
pub record DividesOne (old new : TableState) : Type 0 where
  pub others :
      (h i : ℕ) → h ≢ split_home old.homes → h ≢ old.homes → slot_at new.chains h i ≡ slot_at old.chains h i
  pub kept : new.homes ≡ old.homes → SameSlots old new
