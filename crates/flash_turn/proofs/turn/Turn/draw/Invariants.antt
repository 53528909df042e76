use Rattle.std.proofs.Common.{◌≡◌}
use Rattle.flash_turn.proofs.turn.Turn.draw.Given as goal

abbrev pub invariant-loop : goal.invariant-loop
invariant-loop g l = record {
  table : l.pass.seat.table_id ≡ l.fn.pass.seat.table_id;
  number : l.pass.number ≡ l.fn.pass.number;
  same : l.pass.seat.me ≡ l.fn.pass.seat.me;
}
