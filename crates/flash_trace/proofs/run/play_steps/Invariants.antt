use Rattle.std.proofs.Common.{◌≡◌, ◌+◌, drop, length, map}
use Rattle.flash_play.specs.Playing.{Play, play_from}
use Rattle.flash_script.specs.CodeScripts.{AreWithin, step_meant}
use Rattle.flash_trace.specs.Seats.{IsPlay, TraceGoesOn}
use Rattle.flash_trace.proofs.run.play_steps.Given as goal

-- the steps that are left, from here on, make what all make from the start
abbrev pub invariant-steps : goal.invariant-steps
invariant-steps l = record {
  counted : l.line ≡ l.step-index + 1;
  geometry : l.core.geometry ≡ l.fn.core.geometry;
  going : TraceGoesOn l.core l.play;
  within : AreWithin (length l.bytes) (drop l.step-index l.steps);
  left : (p : Play) → IsPlay p l.fn.core l.fn.play → (q : Play) × IsPlay q l.core l.play
      × (play_from l.core.geometry q (l.line + 1) (map (step_meant l.bytes) (drop l.step-index l.steps))
      ≡ play_from l.fn.core.geometry p 2 (map (step_meant l.bytes) l.steps));
}
