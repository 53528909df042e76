-- Where the buffers hold a record, and which calls leave it there.
use Rattle.std.specs.Prelude.{◌≡◌, ℕ, ◌+◌, ◌-◌, ◌<◌, ◌≤◌, true, List, length, take, drop, Some}
use Rattle.flash_names.specs.declared.place.Label.{Label}
use Rattle.flash_names.specs.declared.place.Place.{Place}
use Rattle.flash_record.specs.Record.{Parts, record_bytes}
use Rattle.flash_buffers.specs.Block.{Block}
use Rattle.flash_buffers.specs.Covering.{covers}
use Rattle.flash_buffers.specs.BufferTable.{BufferTable, block_of}
use Rattle.flash_blocks.specs.BlockTable.{BlockTable}
use Rattle.flash_blocks.specs.Calls.{Call, puts, seals, takes_live, begins, unwrites, writes, fails, pins, unpins, ends, frees}

-- a buffer's block has these bytes at the place, within its records
pub record HasBytes (buffers : BufferTable) (place : Place) (bytes : List ℕ) : Type 0 where
  pub number : ℕ
  pub block : Block
  pub there : block_of buffers number ≡ Some block
  pub covered : covers buffers.size place (Some block) ≡ true
  pub within : place.offset + place.length ≤ block.offset + length block.records
  pub bytes_are : take place.length (drop (place.offset - block.offset) block.records) ≡ bytes

-- the buffers hold the record of these parts at the place
pub record IsHeld (t : BlockTable) (place : Place) (p : Parts) : Type 0 where
  pub version : p.version ≡ place.label.version
  pub some : 0 < place.length
  pub bytes : HasBytes t.buffers place (record_bytes p)

-- a byte of a label is in one buffer at most
abbrev pub IsInOne : BufferTable → Type 0
IsInOne buffers =
    (n m : ℕ) (label : Label) (at : ℕ)
    → covers buffers.size (record { label = label; offset = at; length = 1 }) (block_of buffers n) ≡ true
    → covers buffers.size (record { label = label; offset = at; length = 1 }) (block_of buffers m) ≡ true
    → n ≡ m

-- the call frees no buffer
abbrev pub FreesNone : Call → Type 0
FreesNone (puts bucket key flags cas value) = Unit {0}
FreesNone (seals bucket) = Unit {0}
FreesNone (takes_live place) = Unit {0}
FreesNone begins = Unit {0}
FreesNone (unwrites job) = Unit {0}
FreesNone (writes job) = ⊥
FreesNone (fails job) = ⊥
FreesNone (pins label) = Unit {0}
FreesNone (unpins label) = Unit {0}
FreesNone (ends label) = Unit {0}
FreesNone (frees label) = Unit {0}
