-- What a script does: its steps, one after the other, over plain lists.
use Rattle.std.specs.Prelude.{ℕ, ◌+◌, ◌-◌, Bool, true, false, List, [], ◌∷◌, ◌++◌, length, drop, Option, None, Some, codes, decimal, is_some, replicate, slice_get, slice_set, if◌then◌else◌}
use Rattle.flash_names.specs.declared.geometry.Geometry.{Geometry}
use Rattle.flash_names.specs.declared.place.Id.{Id}
use Rattle.flash_entry.specs.declared.ask.Ask.{Ask}
use Rattle.flash_entry.specs.declared.entry.Entry.{Entry}
use Rattle.flash_entry.specs.declared.found.Told.{Told}
use Rattle.flash_machine.specs.Cache.{Cache, first_cache}
use Rattle.flash_calls.specs.Store.{Desk, Call, first_desk}
use Rattle.flash_calls.specs.Calls.{clock_call}
use Rattle.flash_calls.specs.Rooms.{room_call, reap_call, juggle_call}
use Rattle.flash_answers.specs.AskCalls.{ask_call}
use Rattle.flash_commands.specs.declared.place.Place.{Place}
use Rattle.flash_commands.specs.declared.place.Place.TheVariants.{AtQuit, TooLong}
use Rattle.flash_commands.specs.Parts.{Read}
use Rattle.flash_commands.specs.Commands.{commands_of}
use Rattle.flash_session.specs.Pieces.{next_piece}
use Rattle.flash_session.specs.Talks.{talk_of, steps_of}
use Rattle.flash_script.specs.declared.step.Upkeep.{Upkeep}
use Rattle.flash_script.specs.declared.step.Upkeep.TheVariants.{Room, Reap, Juggle}
use Rattle.flash_script.specs.Steps.{Step, Clock, Say, Feed, Turn, Run, Keep}

-- a session: the bytes that it was given, what its steps were told, what it was answered, and whether it is closed: a
-- turn of it has met the end of its bytes
pub record Seat : Type 0 where
  pub given : List ℕ
  pub told : List Told
  pub replies : List ℕ
  pub closed : Bool

-- the store with its journal
pub record StoreState : Type 0 where
  pub journal : List Entry
  pub cache : Cache
  pub desk : Desk

-- what has happened so far: the store, the printed lines, and the sessions from 1 to 16, as far as they are made
pub record Play : Type 0 where
  pub kept : StoreState
  pub printed : List ℕ
  pub seats : List (Option Seat)

abbrev pub new_seat : Seat
new_seat = record { given = []; told = []; replies = []; closed = false }

-- before the first step
abbrev pub first_play : Geometry → Play
first_play g =
    record {
      kept = record { journal = []; cache = first_cache; desk = first_desk g };
      printed = [];
      seats = replicate 16 None;
    }

-- the store after a call
abbrev pub after_call : {A : Type 0} → StoreState → Call A → StoreState
after_call kept call = record { journal = kept.journal ++ call.entries; cache = call.cache; desk = call.desk }

-- the number of a session's step after those that were told
abbrev pub number_after : ℕ → List Told → Id
number_after session told = record { pass = session; seq = length told + 1 }

-- the store, and what a session's steps were told, after a step more
abbrev pub do_ask : Geometry → ℕ → StoreState × List Told → Ask → StoreState × List Told
do_ask g session state ask =
    let call = ask_call g state.0.cache state.0.desk (number_after session state.1) ask in
    (after_call state.0 call, state.1 ++ call.answer ∷ [])

-- and after more steps, in order
abbrev pub do_asks : Geometry → ℕ → StoreState × List Told → List Ask → StoreState × List Told
do_asks g session state [] = state
do_asks g session state (ask ∷ asks) = do_asks g session (do_ask g session state ask) asks

-- the session of this number, a new one where it isn't made yet
abbrev pub seat_or_new : Option (Option Seat) → Seat
seat_or_new (Some (Some seat)) = seat
seat_or_new _ = new_seat

abbrev pub seat_at : Play → ℕ → Seat
seat_at play session = seat_or_new (slice_get play.seats (session - 1))

abbrev pub with_seat : Play → ℕ → Seat → Play
with_seat play session seat = record play { seats = slice_set play.seats (session - 1) (Some seat) }

-- a line of the output that names the script's line
abbrev pub with_line : Play → List ℕ → ℕ → Play
with_line play word line = record play { printed = play.printed ++ word ++ 32 ∷ decimal line ++ 10 ∷ [] }

-- the same unless something was done
abbrev pub with_line_unless : Bool → Play → List ℕ → ℕ → Play
with_line_unless done play word line = if done then play else with_line play word line

-- a session that was given more bytes
abbrev pub seat_with_more : Seat → List ℕ → Seat
seat_with_more seat bytes = record seat { given = seat.given ++ bytes }

-- bytes for a session: one that is closed takes nothing, and a line is printed
abbrev pub feed : Play → ℕ → ℕ → List ℕ → Play
feed play line session bytes =
    let seat = seat_at play session in
    if seat.closed then with_line (with_seat play session seat) (codes "closed") line
    else with_seat play session (seat_with_more seat bytes)

-- bytes and a line end for a session
abbrev pub say : Play → ℕ → ℕ → List ℕ → Play
say play line session bytes = feed play line session (bytes ++ 13 ∷ 10 ∷ [])

-- whether no byte is read any more
abbrev pub is_end : Place → Bool
is_end AtQuit = true
is_end TooLong = true
is_end _ = false

-- what a session's next turn is: a piece of its replies is written, or else its next step is done; and without a turn
-- its bytes have an end, or it needs more of them
pub data Need : Type 0 where
  Writes : List ℕ → Need
  Does : Ask → Need
  Ends : Need
  Rests : Need

-- by the piece and the step that are next, and whether the bytes have an end
abbrev pub need_by : Option (List ℕ) → Option Ask → Bool → Need
need_by (Some piece) ask end = Writes piece
need_by None (Some ask) end = Does ask
need_by None None true = Ends
need_by None None false = Rests

abbrev pub need_of : Geometry → Seat → Need
need_of g seat =
    let read = commands_of g.item_max seat.given in
    need_by (next_piece g.item_max seat.given seat.told seat.replies) (slice_get (steps_of read.asked) (length seat.told))
    (is_end read.place)

-- the store and the session after a turn, by what it was: where there is none, the session is closed where its bytes have
-- an end
abbrev pub turned : Geometry → ℕ → StoreState → Seat → Need → StoreState × Seat
turned g session kept seat (Writes piece) = (kept, record seat { replies = seat.replies ++ piece })
turned g session kept seat (Does ask) =
    let after = do_ask g session (kept, seat.told) ask in (after.0, record seat { told = after.1 })
turned g session kept seat Ends = (kept, record seat { closed = true })
turned g session kept seat Rests = (kept, record seat { closed = false })

-- where there was none, a line is printed
abbrev pub with_need_line : Play → ℕ → Need → Play
with_need_line play line (Writes piece) = play
with_need_line play line (Does ask) = play
with_need_line play line Ends = with_line play (codes "closed") line
with_need_line play line Rests = with_line play (codes "idle") line

-- a single turn of the session
abbrev pub turn_by : Geometry → Play → ℕ → ℕ → Seat → Need → Play
turn_by g play line session seat need =
    let after = turned g session play.kept seat need in
    with_need_line (with_seat (record play { kept = after.0 }) session after.1) line need

abbrev pub turn : Geometry → Play → ℕ → ℕ → Play
turn g play line session = let seat = seat_at play session in turn_by g play line session seat (need_of g seat)

-- the session after all its turns, by what was read of its bytes, and what its steps were told: it has all its replies,
-- and is closed where its bytes have an end
abbrev pub seat_after_run : Seat → Read → List Told → Seat
seat_after_run seat read told =
    record seat { told = told; replies = (talk_of read.asked told).replies; closed = is_end read.place }

-- all turns of the session: it does the steps that its bytes ask and that it hasn't done
abbrev pub run : Geometry → Play → ℕ → Play
run g play session =
    let seat = seat_at play session in
    let read = commands_of g.item_max seat.given in
    let after = do_asks g session (play.kept, seat.told) (drop (length seat.told) (steps_of read.asked)) in
    with_seat (record play { kept = after.0 }) session (seat_after_run seat read after.1)

-- a call of the store that no session makes: where it did nothing, a line is printed
abbrev pub called : Play → ℕ → Call Bool → Play
called play line call =
    with_line_unless call.answer (record play { kept = after_call play.kept call }) (codes "idle") line

-- a reading of the clock: it does nothing where the moment doesn't rise
abbrev pub clock : Play → ℕ → ℕ → Play
clock play line reading = called play line (clock_call play.kept.cache play.kept.desk reading)

-- a call that may drop an item, by whether it did
abbrev pub did : Call (Option (List ℕ)) → Call Bool
did call = record { entries = call.entries; cache = call.cache; desk = call.desk; answer = is_some call.answer }

-- what keeps a store within its memory
abbrev pub upkeep_call : Geometry → Cache → Desk → Upkeep → Call Bool
upkeep_call g c desk Room = did (room_call g c desk)
upkeep_call g c desk Reap = did (reap_call c desk)
upkeep_call g c desk Juggle = juggle_call g c desk

-- upkeep of the store
abbrev pub upkeep : Geometry → Play → ℕ → Upkeep → Play
upkeep g play line kind = called play line (upkeep_call g play.kept.cache play.kept.desk kind)

-- one step, which is on this line
abbrev pub play_step : Geometry → Play → ℕ → Step → Play
play_step g play line (Clock reading) = clock play line reading
play_step g play line (Say session bytes) = say play line session bytes
play_step g play line (Feed session bytes) = feed play line session bytes
play_step g play line (Turn session) = turn g play line session
play_step g play line (Run session) = run g play session
play_step g play line (Keep kind) = upkeep g play line kind

-- the steps from this line on
abbrev pub play_from : Geometry → Play → ℕ → List Step → Play
play_from g play line [] = play
play_from g play line (step ∷ steps) = play_from g (play_step g play line step) (line + 1) steps

-- a whole script: its steps are on the lines from 2 on
abbrev pub play_of : Geometry → List Step → Play
play_of g steps = play_from g (first_play g) 2 steps
