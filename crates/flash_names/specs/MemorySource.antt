-- What a source in memory has.
use Rattle.std.specs.Prelude.{ℕ, List, drop}
use Rattle.flash_names.specs.FaultPlan.{Plan}
use Rattle.flash_names.specs.declared.memory_source.MemorySource.{MemorySource}

-- the bytes that are left
abbrev pub bytes_left : MemorySource → List ℕ
bytes_left source = drop source.at source.bytes.items

-- the calls that fail
abbrev pub plan_of : MemorySource → Plan
plan_of source = source.plan

-- the most bytes of a call
abbrev pub read_limit_of : MemorySource → ℕ
read_limit_of source = source.most
