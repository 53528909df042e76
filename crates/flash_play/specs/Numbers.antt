-- The numbers of the sessions' steps.
use Rattle.std.specs.Prelude.{◌≡◌, ℕ, length}
use Rattle.flash_machine.specs.NewSteps.{IsNew}
use Rattle.flash_play.specs.Playing.{Play, number_after, seat_at, play_step}
use Rattle.flash_script.specs.Steps.{Step, IsSession, IsSeated}
use Rattle.flash_names.specs.declared.geometry.Geometry.{Geometry}

-- each session's next number is new
abbrev pub IsNumbered : Play → Type 0
IsNumbered p = (session : ℕ) → IsSession session → IsNew p.kept.journal (number_after session (seat_at p session).told)

-- each step leaves them new, where there are places for sixteen sessions
abbrev pub StepsLeaveNumbersNew : Type 0
StepsLeaveNumbersNew = (g : Geometry) (p : Play) (line : ℕ) (step : Step) → length p.seats ≡ 16 → IsSeated step
    → IsNumbered p → IsNumbered (play_step g p line step)
