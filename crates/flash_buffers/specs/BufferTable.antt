-- What the buffers are, and what they are before the first is taken.
use Rattle.std.specs.Prelude.{◌≡◌, ℕ, ◌+◌, ◌<◌, ◌≤◌, Bool, false, is_none, nat_eq, List, [], ◌∷◌, length, replicate, slice_index_or, Option, None, IsSome, if◌then◌else◌}
use Rattle.std.specs.List.{list_any, position_from}
use Rattle.flash_names.specs.declared.place.Label.{Label}
use Rattle.flash_names.specs.declared.place.Place.{Place}
use Rattle.flash_buffers.specs.Block.{Block, Slot}
use Rattle.flash_buffers.specs.Covering.{has_label, covers, read_in}

-- their size, by number the block of each that is taken, the numbers of the sealed ones in the order in which
-- they are written, and whether the first of these is out
pub record BufferTable : Type 0 where
  pub size : ℕ
  pub blocks : List (Option Block)
  pub queue : List ℕ
  pub in_flight : Bool

-- all buffers are free, and no job is in flight
abbrev pub first_table : ℕ → ℕ → BufferTable
first_table buffers size = record { size = size; blocks = replicate buffers None; queue = []; in_flight = false }

-- the block of a buffer
abbrev pub block_of : BufferTable → ℕ → Option Block
block_of t number = slice_index_or t.blocks number None

-- the free buffer of lowest number
abbrev pub first_free : BufferTable → Option ℕ
first_free t = position_from (λ block. is_none block) 0 t.blocks

-- whether the buffer is in the queue
abbrev pub is_sealed : BufferTable → ℕ → Bool
is_sealed t number = list_any (λ n. nat_eq n number) t.queue

-- the buffer is taken and not sealed
pub record IsOpen (t : BufferTable) (number : ℕ) : Type 0 where
  pub inside : number < length t.blocks
  pub taken : IsSome (block_of t number)
  pub unsealed : is_sealed t number ≡ false

-- no buffer of the label has a byte of this range of the buffers' size
abbrev pub IsClear : BufferTable → Label → ℕ → Type 0
IsClear t label offset =
    (number at : ℕ) → offset ≤ at → at < offset + t.size
    → covers t.size (record { label = label; offset = at; length = 1 }) (block_of t number) ≡ false

-- the bytes of a place, where a buffer of its label covers it
abbrev pub read_of : BufferTable → Place → Option (List ℕ)
read_of t place = read_in t.size place t.blocks

-- the block of the first in a queue
abbrev pub first_block : List (Option Block) → List ℕ → Option Block
first_block blocks [] = None
first_block blocks (number ∷ rest) = slice_index_or blocks number None

-- the block that is written next, or that is out
abbrev pub oldest_block : BufferTable → Option Block
oldest_block t = first_block t.blocks t.queue

-- free where it is a block of this label
abbrev pub block_without : Label → Option Block → Option Block
block_without label block = if has_label label block then None else block

-- the same of a buffer
abbrev pub slot_without : Label → Slot → Slot
slot_without label slot = record slot { block = block_without label slot.block }
