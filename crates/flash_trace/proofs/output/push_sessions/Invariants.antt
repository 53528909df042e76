use Rattle.std.proofs.Common.{◌≡◌, ◌+◌, ◌++◌, drop}
use Rattle.flash_trace.specs.Output.{sessions_text}
use Rattle.flash_trace.specs.Seats.{shown}
use Rattle.flash_trace.proofs.output.push_sessions.Given as goal

-- what is pushed so far, with what is left behind it
abbrev pub invariant-seats : goal.invariant-seats
invariant-seats l = record {
  counted : l.number ≡ l.seat-index;
  left : l.out.items ++ sessions_text (l.number + 1) (shown (drop l.seat-index l.seats))
      ≡ l.fn.out.items ++ sessions_text 1 (shown l.seats);
}
