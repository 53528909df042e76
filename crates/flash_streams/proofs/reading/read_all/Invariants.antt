use Rattle.std.proofs.Common.{◌≡◌, ◌+◌, ◌-◌, ◌<◌, ◌≤◌, length, vec_len}
use Rattle.flash_names.specs.Told.{with_front}
use Rattle.flash_streams.proofs.reading.read_all.Given as goal

-- what was read so far is before what is left
abbrev pub invariant-reads : goal.invariant-reads
invariant-reads g l = record {
  taken : g.S.Source.left l.fn.source ≡ with_front l.bytes.items (g.S.Source.left l.source);
  kept : g.S.Source.faults l.fn.source ≤ g.S.Source.faults l.source;
  room : 0 < length l.piece.items;
  small : length l.piece.items ≤ 65536;
  bounded : length l.bytes.items ≤ l.fn.limit + 65536;
}

abbrev pub decreases-reads : goal.decreases-reads
decreases-reads g l = l.fn.limit + 1 - vec_len l.bytes
