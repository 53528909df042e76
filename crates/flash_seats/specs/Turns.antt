-- A session's turns, as far as they are done.
use Rattle.std.specs.Prelude.{◌≡◌, ℕ, ◌+◌, min, Bool, true, false, List, [], ◌++◌, length, take, drop, Option, None, Some}
use Rattle.std.specs.List.{AllByRecursion}
use Rattle.flash_names.specs.declared.geometry.Geometry.{Geometry}
use Rattle.flash_names.specs.declared.place.Id.{Id}
use Rattle.flash_entry.specs.declared.found.Told.{Told}
use Rattle.flash_calls.specs.Store.{Store}
use Rattle.flash_commands.specs.Commands.{commands_of}
use Rattle.flash_reader.specs.Readers.{room_of, fed}
use Rattle.flash_session.specs.declared.todo.Ending.{Ending}
use Rattle.flash_session.specs.declared.todo.Ending.TheVariants.{UsedUp}
use Rattle.flash_session.specs.Stands.{Stands}
use Rattle.flash_session.specs.States.{sent}
use Rattle.flash_session.specs.Talks.{ends_command, talk_of, steps_of}
use Rattle.flash_play.specs.Playing.{Seat, StoreState, Need, Writes, Does, Ends, Rests, need_of, turned, do_asks, seat_after_run, is_end}
use Rattle.flash_seats.specs.declared.seat.Seat as code
use Rattle.flash_seats.specs.declared.seat.Turn.{Turn}
use Rattle.flash_seats.specs.declared.seat.Turn.TheVariants.{Taken, Idle, Closed}
use Rattle.flash_seats.specs.Seats.{kept_of, rest_of, IsSeat}

-- the steps that these bytes ask, but for those that were told
abbrev pub steps_left : Geometry → List ℕ → List Told → StoreState × List Told → ℕ → StoreState × List Told
steps_left g given told state number =
    do_asks g number state (drop (length told) (steps_of (commands_of g.item_max given).asked))

-- turns that are under way: from this store, the steps that are left lead to their end
pub record IsMidway (g : Geometry) (number : ℕ) (given : List ℕ) (final : StoreState × List Told) (kept : StoreState)
    (code : code.Seat) : Type 0 where
  pub fed : List ℕ
  pub told : List Told
  pub given_is : given ≡ fed ++ rest_of code
  pub stands : Stands fed told code.replies.items code.session
  pub each : AllByRecursion (λ answer. ends_command answer ≡ false) told
  pub size : code.session.reads.item_max ≡ g.item_max
  pub pass : code.session.pass ≡ number
  pub free : code.session.owed ≡ false
  pub ahead : steps_left g given told (kept, told) number ≡ final

-- turns that are over: all steps are done, all replies were taken, and the session is closed where its bytes end it
pub record IsOver (g : Geometry) (number : ℕ) (given : List ℕ) (final : StoreState × List Told) (kept : StoreState)
    (code : code.Seat) : Type 0 where
  pub midway : IsMidway g number given final kept code
  pub sent_is : code.session.out ≡ []
  pub kept_is : kept ≡ final.0
  pub told_is : midway.told ≡ final.1
  pub replies_are : code.replies.items ≡ (talk_of (commands_of g.item_max given).asked midway.told).replies
  pub closed_is : code.closed ≡ is_end (commands_of g.item_max given).place

-- after a turn, or more bytes that the session was fed, by what it was
abbrev pub AfterPart : Option Turn → Geometry → ℕ → List ℕ → StoreState × List Told → StoreState → code.Seat → Type 0
AfterPart None g number given final kept code = IsMidway g number given final kept code
AfterPart (Some Taken) g number given final kept code = IsMidway g number given final kept code
AfterPart (Some Idle) g number given final kept code = IsOver g number given final kept code
AfterPart (Some Closed) g number given final kept code = IsOver g number given final kept code

-- it leads from where the turns were to where they are
abbrev pub GoesOnBy : Store → code.Seat → Option Turn → Store → code.Seat → Type 0
GoesOnBy s old part s2 new =
    (number : ℕ) (given : List ℕ) (final : StoreState × List Told)
    → IsMidway s.geometry number given final (kept_of s) old
    → AfterPart part s.geometry number given final (kept_of s2) new

-- what the code answers of a turn, by what it was
abbrev pub turn_of : Need → Turn
turn_of (Writes piece) = Taken
turn_of (Does ask) = Taken
turn_of Ends = Closed
turn_of Rests = Idle

-- the session and the store after this session's next turn
pub record HasTurned (turn : Turn) (number : ℕ) (was : Seat) (s s2 : Store) (new : code.Seat) : Type 0 where
  pub turn_is : turn ≡ turn_of (need_of s.geometry was)
  pub kept : kept_of s2 ≡ (turned s.geometry number (kept_of s) was (need_of s.geometry was)).0
  pub seat : IsSeat s.geometry.item_max number (turned s.geometry number (kept_of s) was (need_of s.geometry was)).1 new

-- the same where it was fed more bytes in place of it
abbrev pub FedOrTurned : Option Turn → ℕ → Seat → Store → Store → code.Seat → Type 0
FedOrTurned None number was s s2 new = (kept_of s2 ≡ kept_of s) × IsSeat s.geometry.item_max number was new
FedOrTurned (Some turn) number was s s2 new = HasTurned turn number was s s2 new

-- the number of the session's next step
abbrev pub next_id : code.Seat → Id
next_id code = record { pass = code.session.pass; seq = code.session.last + 1 }

-- the session's replies were taken
pub record HasCollected (old new : code.Seat) : Type 0 where
  pub closed : new.closed ≡ old.closed
  pub replies : new.replies.items ≡ old.replies.items ++ old.session.out
  pub session : new.session ≡ sent old.session (length old.session.out)
  pub rest : rest_of new ≡ rest_of old

-- the session was fed as many of its bytes as it takes, or had none left to feed
abbrev pub fed_now : code.Seat → ℕ
fed_now old = min (length (rest_of old)) (room_of old.session.reads)

abbrev pub HasFed : Bool → code.Seat → code.Seat → Type 0
HasFed true old new =
    (rest_of old ≡ []) × (rest_of new ≡ []) × (new.session ≡ old.session)
    × (new.replies.items ≡ old.replies.items) × (new.closed ≡ false)
HasFed false old new =
    (rest_of new ≡ drop (fed_now old) (rest_of old)) × (new.replies.items ≡ old.replies.items)
    × (new.session ≡ record old.session {
      reads = record old.session.reads {
        reader = fed old.session.reads.reader (take (fed_now old) (rest_of old));
      };
    })
    × (new.closed ≡ old.closed)

-- the session has met this end, and not one for want of numbers
abbrev pub HasEnded : Ending → code.Seat → code.Seat → Type 0
HasEnded UsedUp old new = ⊥
HasEnded _ old new =
    (rest_of new ≡ rest_of old) × (new.session ≡ old.session)
    × (new.replies.items ≡ old.replies.items) × (new.closed ≡ true)

-- the session and the store after all turns
pub record HasRun (number : ℕ) (was : Seat) (s s2 : Store) (new : code.Seat) : Type 0 where
  pub kept : kept_of s2 ≡ (steps_left s.geometry was.given was.told (kept_of s, was.told) number).0
  pub seat : IsSeat s.geometry.item_max number
      (seat_after_run was (commands_of s.geometry.item_max was.given)
      (steps_left s.geometry was.given was.told (kept_of s, was.told) number).1) new
