use Rattle.std.proofs.Common.{◌≡◌, ℕ, ◌%◌, ◌^◌, [], Some}
use Rattle.flash_turn.proofs.turn.Turn.take.Given as goal

abbrev pub invariant-loop : goal.invariant-loop
invariant-loop g l = record {
  table : l.pass.seat.table_id ≡ l.fn.pass.seat.table_id;
  number : l.pass.number ≡ l.fn.pass.number;
  waits : (k : ℕ) × (l.ticket ≡ k % 2 ^ 64) × (l.pass.seat.me ≡ (record l.fn.pass.seat.me.0 { ticket = Some k }, []));
}
