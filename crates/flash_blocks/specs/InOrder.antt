-- What stays so of a table through each call.
use Rattle.std.specs.Prelude.{◌≡◌, ℕ, true, IsSome}
use Rattle.flash_buffers.specs.BufferTable.{BufferTable, block_of, is_sealed}
use Rattle.flash_blocks.specs.BlockTable.{BlockTable}
use Rattle.flash_blocks.specs.Held.{IsInOne}
use Rattle.flash_blocks.specs.Sound.{IsSound}

-- each sealed buffer is taken
abbrev pub AreTaken : BufferTable → Type 0
AreTaken buffers = (number : ℕ) → is_sealed buffers number ≡ true → IsSome (block_of buffers number)

-- the table is as `Blocks` keeps it, a byte of a label is in one buffer at most, and each sealed buffer is taken
pub record IsInOrder (t : BlockTable) : Type 0 where
  pub sound : IsSound t
  pub one : IsInOne t.buffers
  pub taken : AreTaken t.buffers
