-- What a script's sessions are answered, read off the script and the journal.
use Rattle.std.specs.Prelude.{◌≡◌, ℕ, ◌≤◌, max, min, Bool, false, ◌||◌, nat_eq, List, [], ◌∷◌, ◌++◌, length, take, if◌then◌else◌}
use Rattle.std.specs.List.{list_any}
use Rattle.flash_names.specs.Geometry.{Passes}
use Rattle.flash_names.specs.declared.geometry.Geometry.{Geometry}
use Rattle.flash_entry.specs.declared.entry.Entry.{Entry}
use Rattle.flash_machine.specs.Legal.{Legal}
use Rattle.flash_machine.specs.Moments.{last_moment}
use Rattle.flash_machine.specs.Steps.{cache_of}
use Rattle.flash_answers.specs.Outcomes.{outcomes, HasEntry}
use Rattle.flash_answers.specs.Records.{Keeps}
use Rattle.flash_commands.specs.Commands.{commands_of}
use Rattle.flash_commands.specs.Laws.{joined}
use Rattle.flash_session.specs.Pieces.{pieces_of}
use Rattle.flash_session.specs.Talks.{talk_of, steps_of}
use Rattle.flash_play.specs.Playing.{Seat, is_end, seat_at, play_of}
use Rattle.flash_script.specs.Steps.{Step, Clock, Say, Feed, Turn, Run, IsSession, AreSeated}

-- the bytes that a step gives to a session
abbrev pub bytes_for : ℕ → Step → List ℕ
bytes_for session (Say other bytes) = if nat_eq other session then bytes ++ 13 ∷ 10 ∷ [] else []
bytes_for session (Feed other bytes) = if nat_eq other session then bytes else []
bytes_for session _ = []

abbrev pub bytes_to : ℕ → List Step → List ℕ
bytes_to session [] = []
bytes_to session (step ∷ steps) = bytes_for session step ++ bytes_to session steps

-- whether a step is all turns of the session
abbrev pub is_run : ℕ → Step → Bool
is_run session (Run other) = nat_eq other session
is_run session _ = false

-- whether one of these steps is
abbrev pub has_run : ℕ → List Step → Bool
has_run session steps = list_any (is_run session) steps

-- whether a step is a single turn of the session
abbrev pub is_turn : ℕ → Step → Bool
is_turn session (Turn other) = nat_eq other session
is_turn session _ = false

-- whether a session took single turns after its last run, where it did or didn't before these steps
abbrev pub turned_since : ℕ → Bool → List Step → Bool
turned_since session before [] = before
turned_since session before (step ∷ steps) =
    turned_since session (if is_run session step then false else is_turn session step || before) steps

-- the bytes that a script gives to a session before its last run: those that have a run after them
abbrev pub bytes_before_last_run : ℕ → List Step → List ℕ
bytes_before_last_run session [] = []
bytes_before_last_run session (step ∷ steps) =
    (if has_run session steps then bytes_for session step else []) ++ bytes_before_last_run session steps

-- What a session has done and was answered that was given these bytes, wherever it stands in them: it has done so many of
-- the steps that they ask, the first ones; each of these has an entry in the journal, and the journal has no other steps
-- of it; and it was answered so many pieces of the replies, the first ones, as the journal tells the outcomes of its steps
pub record IsAnsweredSoFar (g : Geometry) (session : ℕ) (given : List ℕ) (journal : List Entry) (seat : Seat) : Type 0 where
  pub done : ℕ
  pub few : done ≤ length (steps_of (commands_of g.item_max given).asked)
  pub known : (seq : ℕ) → 1 ≤ seq → seq ≤ done → HasEntry g session seq journal
  pub keeps : Keeps (take done (steps_of (commands_of g.item_max given).asked)) session journal
  pub pieces : ℕ
  pub replies : seat.replies
      ≡ joined (take pieces (pieces_of (commands_of g.item_max given).asked (outcomes g session journal done)))

-- What a session was answered that was given these bytes before its last run: all replies to them, in order, as the
-- journal tells the outcomes of its steps; each step that they ask has an entry in the journal, and the journal has no
-- other steps of it; and the session is closed exactly where the bytes end it
pub record IsAnswered (g : Geometry) (session : ℕ) (turns : List ℕ) (journal : List Entry) (seat : Seat) : Type 0 where
  pub replies : seat.replies
      ≡ (talk_of (commands_of g.item_max turns).asked
      (outcomes g session journal (length (steps_of (commands_of g.item_max turns).asked)))).replies
  pub known : (seq : ℕ) → 1 ≤ seq → seq ≤ length (steps_of (commands_of g.item_max turns).asked)
      → HasEntry g session seq journal
  pub keeps : Keeps (steps_of (commands_of g.item_max turns).asked) session journal
  pub closed : seat.closed ≡ is_end (commands_of g.item_max turns).place

-- the moment of a store after steps: the greatest reading of the clock, which counts up to 2^62
abbrev pub moment_with : ℕ → Step → ℕ
moment_with now (Clock reading) = max now (min reading last_moment)
moment_with now _ = now

abbrev pub moment_after : ℕ → List Step → ℕ
moment_after now [] = now
moment_after now (step ∷ steps) = moment_after (moment_with now step) steps

-- the script's journal is a run of the one-thread cache, at the moment that its readings of the clock make, and each of
-- its sessions is answered: the first pieces of the replies to all its bytes, and where it took no single turn after its
-- last run, all replies to the bytes before that run
pub record IsRight (g : Geometry) (steps : List Step) : Type 0 where
  pub legal : Legal g (play_of g steps).kept.journal
  pub moment : (cache_of g (play_of g steps).kept.journal).now ≡ moment_after 0 steps
  pub so_far : (session : ℕ) → IsSession session
      → IsAnsweredSoFar g session (bytes_to session steps) (play_of g steps).kept.journal (seat_at (play_of g steps) session)
  pub answered : (session : ℕ) → IsSession session → turned_since session false steps ≡ false
      → IsAnswered g session (bytes_before_last_run session steps) (play_of g steps).kept.journal
      (seat_at (play_of g steps) session)

-- so it is with every script over a geometry that keeps its rules
abbrev pub EveryPlayIsRight : Type 0
EveryPlayIsRight = (g : Geometry) (steps : List Step) → Passes g → AreSeated steps → IsRight g steps
