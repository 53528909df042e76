-- What a taken buffer holds: a block of a page.
use Rattle.std.specs.Prelude.{ℕ, ◌+◌, ◌-◌, Bool, nat_le, List, ◌++◌, length, map, replicate, Option, None, Some, option_map, if◌then◌else◌}
use Rattle.std.specs.Option.{option_and_then}
use Rattle.flash_names.specs.declared.place.Label.{Label}
use Rattle.flash_names.specs.declared.place.Place.{Place}
use Rattle.flash_record.specs.Record.{parts_with, Parts, record_length, record_bytes}

-- the label of its page, where it begins in the page, and the bytes of its records, one after the other
pub record Block : Type 0 where
  pub label : Label
  pub offset : ℕ
  pub records : List ℕ

-- a buffer: how many bytes it has, and its block where it is taken
pub record Slot : Type 0 where
  pub size : ℕ
  pub block : Option Block

-- the blocks of these buffers
abbrev pub blocks_in : List Slot → List (Option Block)
blocks_in slots = map (λ slot. slot.block) slots

-- the bytes of a block of this size: its records, then zeros
abbrev pub block_bytes : ℕ → Block → List ℕ
block_bytes size block = block.records ++ replicate (size - length block.records) 0

-- the place of the whole block
abbrev pub block_place : ℕ → Block → Place
block_place size block = record { label = block.label; offset = block.offset; length = size }

-- whether a record of n bytes fits after those that are there
abbrev pub fits_in : ℕ → ℕ → Block → Bool
fits_in size n block = nat_le (length block.records + n) size

-- the record of these parts, with the version of the block's label
abbrev pub parts_in : List ℕ → ℕ → ℕ → List ℕ → Block → Parts
parts_in key flags cas value block = parts_with key flags cas block.label.version value

-- where the record is to be, if it fits
abbrev pub next_place : ℕ → Parts → Block → Option Place
next_place size p block =
    if fits_in size (record_length p) block
    then Some (record { label = block.label; offset = block.offset + length block.records; length = record_length p })
    else None

-- with the record after the others, if it fits
abbrev pub with_record : ℕ → Parts → Block → Block
with_record size p block =
    if fits_in size (record_length p) block then record block { records = block.records ++ record_bytes p } else block

-- the place of the record in a buffer, where it is taken and the record fits
abbrev pub place_in : ℕ → List ℕ → ℕ → ℕ → List ℕ → Option Block → Option Place
place_in size key flags cas value block =
    option_and_then (λ b. next_place size (parts_in key flags cas value b) b) block

-- a buffer's block with the record after the others, where it is taken and the record fits
abbrev pub block_with_record : ℕ → List ℕ → ℕ → ℕ → List ℕ → Option Block → Option Block
block_with_record size key flags cas value block =
    option_map (λ b. with_record size (parts_in key flags cas value b) b) block
