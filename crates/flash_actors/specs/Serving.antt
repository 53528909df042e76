-- A session under way, and what each part of a turn makes of it.
use Rattle.std.specs.Prelude.{◌≡◌, ℕ, List, ◌++◌, length, take, drop, Option}
use Rattle.std.specs.Option.{ForSome}
use Rattle.flash_names.specs.Told.{with_front}
use Rattle.flash_names.specs.declared.geometry.Geometry.{Geometry}
use Rattle.flash_streams.specs.Writing.{IsWritten}
use Rattle.flash_entry.specs.declared.entry.Entry.{Entry}
use Rattle.flash_entry.specs.declared.found.Told.{Told}
use Rattle.flash_machine.specs.Legal.{Legal}
use Rattle.flash_answers.specs.Outcomes.{outcomes}
use Rattle.flash_answers.specs.Records.{Keeps}
use Rattle.flash_reader.specs.Readers.{fed}
use Rattle.flash_session.specs.Stands.{Stands}
use Rattle.flash_session.specs.States.{Session}
use Rattle.flash_actors.specs.declared.input.Input.{Input}
use Rattle.flash_actors.specs.declared.service.Service.{Service}
use Rattle.flash_actors.specs.declared.session_end.SessionEnd.{SessionEnd}
use Rattle.flash_actors.specs.declared.session_end.SessionEnd.TheVariants as ends
use Rattle.flash_actors.specs.Headline.{Outside, talk_over, IsHeadline}
use Rattle.flash_actors.specs.Timing.{AreRead}

-- the bytes that were read and not fed yet
abbrev pub rest_of : Input → List ℕ
rest_of input = drop input.start (take input.end input.bytes.items)

-- a session of pass n: it was fed all that was read but for the rest, its steps had the outcomes that the journal gives
-- them, each at its reading of the clock, and its replies were sent or are gathered
pub record IsServed (g : Geometry) (n k : ℕ) (start now : Outside) (service : Service) (journal : List Entry)
    : Type 0 where
  pub fed : List ℕ
  pub told : List Told
  pub sent : List ℕ
  pub taken : start.left ≡ with_front (fed ++ rest_of service.input) now.left
  pub written : IsWritten sent start.held now.held
  pub stands : Stands fed told (sent ++ service.output.gathered.items) service.session
  pub size : service.session.reads.item_max ≡ g.item_max
  pub outcomes : told ≡ outcomes g n journal (length told)
  pub keeps : Keeps (talk_over g fed told).asks n journal
  pub read : ForSome now.given (AreRead g n (length told) k journal)

-- a session that is served goes on so, whatever it has done before
abbrev pub GoesOn : Geometry → ℕ → Outside → Outside → Service → Service → Option (List Entry) → Option (List Entry)
    → Type 0
GoesOn g n now after old new seen seen_after =
    (start : Outside) (k : ℕ) → ForSome seen (IsServed g n k start now old)
    → ForSome seen_after (IsServed g n k start after new)

-- or it ends so
abbrev pub EndsSo : Geometry → ℕ → SessionEnd → Outside → Outside → Service → Option (List Entry) → Option (List Entry)
    → Type 0
EndsSo g n end now after old seen seen_after =
    (start : Outside) (k : ℕ) → ForSome seen (IsServed g n k start now old)
    → ForSome seen_after (IsHeadline g n k end start after)

-- a piece was taken: what was gathered, with it, is what was written and what is gathered now
pub record HasTaken (piece before after : List ℕ) (held held_after : Option (List ℕ)) : Type 0 where
  pub sent : List ℕ
  pub parts : before ++ piece ≡ sent ++ after
  pub written : IsWritten sent held held_after

-- the ends for want of a sink or of memory
abbrev pub IsUnwritten : SessionEnd → Type 0
IsUnwritten ends.SinkFault = Unit {0}
IsUnwritten ends.NoMemory = Unit {0}
IsUnwritten _ = ⊥

-- the ends by the source
abbrev pub IsUnread : SessionEnd → Type 0
IsUnread ends.End = Unit {0}
IsUnread ends.SourceFault = Unit {0}
IsUnread _ = ⊥

-- these bytes were read
abbrev pub HasRead : List ℕ → Option (List ℕ) → Option (List ℕ) → Type 0
HasRead bytes left left_after = left ≡ with_front bytes left_after

-- a session was fed as many of the bytes as it takes
pub record HasFed (old : Input) (session : Session) (new : Input) (session_after : Session) : Type 0 where
  pub n : ℕ
  pub rest : rest_of new ≡ drop n (rest_of old)
  pub fed : session_after ≡ record session {
    reads = record session.reads { reader = fed session.reads.reader (take n (rest_of old)) };
  }

-- what goes on, or ends, whatever the store, where no step is done
abbrev pub KeepsOn : Outside → Outside → Service → Service → Type 0
KeepsOn now after old new = (g : Geometry) (n : ℕ) (seen : Option (List Entry)) → GoesOn g n now after old new seen seen

abbrev pub Stops : SessionEnd → Outside → Outside → Service → Type 0
Stops end now after old = (g : Geometry) (n : ℕ) (seen : Option (List Entry)) → ForSome seen (Legal g)
    → EndsSo g n end now after old seen seen
