use Rattle.std.proofs.Common.{◌-◌, ◌≤◌, length, take}
use Rattle.flash_streams.specs.Writing.{IsWritten}
use Rattle.flash_streams.proofs.writing.write_all.Given as goal

-- the first of the bytes are written
abbrev pub invariant-writes : goal.invariant-writes
invariant-writes g l = record {
  within : l.done ≤ length l.bytes;
  written : IsWritten (take l.done l.bytes) (g.K.Sink.held l.fn.sink) (g.K.Sink.held l.sink);
  kept : g.K.Sink.faults l.fn.sink ≤ g.K.Sink.faults l.sink;
}

abbrev pub decreases-writes : goal.decreases-writes
decreases-writes g l = length l.bytes - l.done
