use Rattle.std.proofs.Common.{◌^◌, ◌≤◌, arith}
use Rattle.std.specs.Prelude.{min}
use Rattle.flash_calls.proofs.Timing.{clock_runs}
use Rattle.flash_calls.proofs.laws.each_clock_goes_on.Goals as goal

pub returns : goal.returns
returns c = λ g cache h desk reading is.
    let within : min reading (2 ^ 62) ≤ 2 ^ 62 = omega arith in
    clock_runs c.laws_below.ensures g h cache desk is (min reading (2 ^ 62)) within
