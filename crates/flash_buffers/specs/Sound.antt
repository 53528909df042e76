-- What the buffers keep.
use Rattle.std.specs.Prelude.{◌≡◌, ℕ, ◌^◌, ◌<◌, ◌≤◌, List, length, All, nat_eq, slice_index_or, None, Some, IsSome, true}
use Rattle.std.specs.List.{AllByRecursion, IsDistinct}
use Rattle.flash_names.specs.declared.place.Place.{Place}
use Rattle.flash_buffers.specs.Block.{Slot, blocks_in}
use Rattle.flash_buffers.specs.Covering.{covers, bytes_in, read_in}

-- what is read after the last buffer
abbrev pub free_slot : Slot
free_slot = record { size = 0; block = None }

-- the buffer of this number is there, and taken
abbrev pub IsTaken : List Slot → ℕ → Type 0
IsTaken slots number = (number < length slots) × IsSome (slice_index_or slots number free_slot).block

-- the buffer of this number covers the place, and the place is read from it
pub record Covers (size : ℕ) (place : Place) (slots : List Slot) (number : ℕ) : Type 0 where
  pub inside : number < length slots
  pub covers : covers size place (slice_index_or slots number free_slot).block ≡ true
  pub read : read_in size place (blocks_in slots)
      ≡ Some (bytes_in size place (slice_index_or slots number free_slot).block)

-- the buffers and their queue are as `Buffers` keeps them: one size, fewer than 2^32, room in the queue for each,
-- and in it taken ones alone, each once
pub record IsSound (size : ℕ) (slots : List Slot) (queue : List ℕ) (room : ℕ) : Type 0 where
  pub sizes : All (λ slot. slot.size ≡ size) slots
  pub few : length slots < 2 ^ 32
  pub rooms : length slots ≤ room
  pub taken : AllByRecursion (IsTaken slots) queue
  pub distinct : IsDistinct nat_eq queue
