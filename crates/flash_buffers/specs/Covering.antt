-- Which buffer a place is read from.
use Rattle.std.specs.Prelude.{ℕ, ◌+◌, ◌-◌, Bool, false, ◌&&◌, nat_le, List, [], ◌∷◌, take, drop, Option, None, Some, if◌then◌else◌}
use Rattle.flash_names.specs.declared.place.Label.{Label}
use Rattle.flash_names.specs.declared.place.Place.{Place}
use Rattle.flash_names.specs.Labels.{same_label}
use Rattle.flash_buffers.specs.Block.{Block, block_bytes}

-- whether the buffer is taken by a block of this label
abbrev pub has_label : Label → Option Block → Bool
has_label label None = false
has_label label (Some block) = same_label block.label label

-- whether the buffer, of this size, is taken by a block of the place's label that the place lies in
abbrev pub covers : ℕ → Place → Option Block → Bool
covers size place None = false
covers size place (Some block) =
    same_label block.label place.label && nat_le block.offset place.offset
    && nat_le (place.offset + place.length) (block.offset + size)

-- the bytes of the place in such a block
abbrev pub bytes_in : ℕ → Place → Option Block → List ℕ
bytes_in size place None = []
bytes_in size place (Some block) = take place.length (drop (place.offset - block.offset) (block_bytes size block))

-- the bytes of the place in the first buffer that covers it
abbrev pub read_in : ℕ → Place → List (Option Block) → Option (List ℕ)
read_in size place [] = None
read_in size place (block ∷ rest) =
    if covers size place block then Some (bytes_in size place block) else read_in size place rest
