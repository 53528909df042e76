-- The records that the bytes of a block are.
use Rattle.std.specs.Prelude.{◌≡◌, ℕ, List, [], ◌∷◌, ◌++◌}
use Rattle.std.specs.List.{AllByRecursion}
use Rattle.flash_record.specs.Record.{Parts, Fits, record_bytes}
use Rattle.flash_buffers.specs.Block.{Block}

-- the bytes of these records, one after the other
abbrev pub bytes_of_all : List Parts → List ℕ
bytes_of_all [] = []
bytes_of_all (p ∷ rest) = record_bytes p ++ bytes_of_all rest

-- the parts have a record, and this version
abbrev pub IsOf : ℕ → Parts → Type 0
IsOf version p = (p.version ≡ version) × Fits p

-- the block's bytes are whole records of its version, one after the other
abbrev pub AreRecords : Block → Type 0
AreRecords block =
    (all : List Parts) × AllByRecursion (IsOf block.label.version) all × (block.records ≡ bytes_of_all all)
