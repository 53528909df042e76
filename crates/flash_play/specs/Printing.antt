-- What each step of a script prints, by the steps before it, and which sessions the steps make.
use Rattle.std.specs.Prelude.{◌≡◌, ℕ, ◌+◌, ◌-◌, min, Bool, false, nat_eq, nat_lt, List, [], ◌∷◌, ◌++◌, is_some, slice_get, codes, decimal, if◌then◌else◌}
use Rattle.std.specs.List.{list_any}
use Rattle.std.specs.Option.{option_flatten}
use Rattle.flash_names.specs.declared.geometry.Geometry.{Geometry}
use Rattle.flash_play.specs.Answers.{moment_after}
use Rattle.flash_play.specs.Playing.{Play, Need, Writes, Does, Ends, Rests, need_of, seat_at, play_of, upkeep_call}
use Rattle.flash_script.specs.declared.step.Upkeep.{Upkeep}
use Rattle.flash_script.specs.Steps.{Step, Clock, Say, Feed, Turn, Run, Keep, IsSession, AreSeated}
use Rattle.flash_machine.specs.Moments.{last_moment}

-- a printed line: a word, and the number of the script's line
abbrev pub printed_line : List ℕ → ℕ → List ℕ
printed_line word line = word ++ (32 ∷ decimal line ++ 10 ∷ [])

-- whether upkeep of the store would do something
abbrev pub upkeep_does : Geometry → Play → Upkeep → Bool
upkeep_does g play kind = (upkeep_call g play.kept.cache play.kept.desk kind).answer

-- what bytes for a session print after these steps
abbrev pub feed_prints : Geometry → List Step → ℕ → ℕ → List ℕ
feed_prints g before line session =
    if (seat_at (play_of g before) session).closed then printed_line (codes "closed") line else []

-- what a single turn of a session prints, by what it was
abbrev pub turn_prints : ℕ → Need → List ℕ
turn_prints line (Writes piece) = []
turn_prints line (Does ask) = []
turn_prints line Ends = printed_line (codes "closed") line
turn_prints line Rests = printed_line (codes "idle") line

-- What a step after these steps prints: a reading of the clock `idle` where it isn't above the readings before; bytes for a
-- session `closed` where a turn or run of it has met the end of its bytes; a single turn `closed` where there is none and
-- its bytes have an end, and `idle` where there is none and they have not; and upkeep `idle` where the store that the steps
-- before make has nothing for it to do. A run prints nothing
abbrev pub step_prints : Geometry → List Step → ℕ → Step → List ℕ
step_prints g before line (Clock reading) =
    if nat_lt (moment_after 0 before) (min reading last_moment) then [] else printed_line (codes "idle") line
step_prints g before line (Say session bytes) = feed_prints g before line session
step_prints g before line (Feed session bytes) = feed_prints g before line session
step_prints g before line (Turn session) = turn_prints line (need_of g (seat_at (play_of g before) session))
step_prints g before line (Run session) = []
step_prints g before line (Keep kind) =
    if upkeep_does g (play_of g before) kind then [] else printed_line (codes "idle") line

-- what these steps print, of which the first has this line and the given steps before it
abbrev pub steps_print : Geometry → List Step → ℕ → List Step → List ℕ
steps_print g before line [] = []
steps_print g before line (step ∷ steps) =
    step_prints g before line step ++ steps_print g (before ++ step ∷ []) (line + 1) steps

-- whether a step names the session
abbrev pub names : ℕ → Step → Bool
names session (Clock reading) = false
names session (Say other bytes) = nat_eq other session
names session (Feed other bytes) = nat_eq other session
names session (Turn other) = nat_eq other session
names session (Run other) = nat_eq other session
names session (Keep kind) = false

-- the steps of a script print so, and make the sessions that they name, and no others
pub record IsPrinted (g : Geometry) (steps : List Step) : Type 0 where
  pub printed : (play_of g steps).printed ≡ steps_print g [] 2 steps
  pub made : (session : ℕ) → IsSession session
      → is_some (option_flatten (slice_get (play_of g steps).seats (session - 1))) ≡ list_any (names session) steps

abbrev pub EveryPlayIsPrinted : Type 0
EveryPlayIsPrinted = (g : Geometry) (steps : List Step) → AreSeated steps → IsPrinted g steps
