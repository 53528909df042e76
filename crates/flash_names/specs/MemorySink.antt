-- What a sink in memory has.
use Rattle.std.specs.Prelude.{ℕ, List}
use Rattle.flash_names.specs.FaultPlan.{Plan}
use Rattle.flash_names.specs.declared.memory_sink.MemorySink.{MemorySink}

-- the bytes that it holds
abbrev pub bytes_held : MemorySink → List ℕ
bytes_held sink = sink.bytes.items

-- the calls that fail
abbrev pub plan_of : MemorySink → Plan
plan_of sink = sink.plan
