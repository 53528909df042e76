-- What a session has done at its end.
use Rattle.std.specs.Prelude.{◌≡◌, ℕ, ◌-◌, ◌^◌, ◌<◌, List, length, Option}
use Rattle.std.specs.Option.{ForSome}
use Rattle.flash_names.specs.Faults.{Rose}
use Rattle.flash_names.specs.Source.{IsAtEnd}
use Rattle.flash_names.specs.Told.{with_front}
use Rattle.flash_names.specs.declared.geometry.Geometry.{Geometry}
use Rattle.flash_streams.specs.Writing.{IsWritten, IsBegun}
use Rattle.flash_entry.specs.declared.entry.Entry.{Entry}
use Rattle.flash_entry.specs.declared.found.Told.{Told}
use Rattle.flash_machine.specs.Legal.{Legal}
use Rattle.flash_answers.specs.Outcomes.{outcomes}
use Rattle.flash_answers.specs.Records.{Keeps}
use Rattle.flash_commands.specs.Commands.{commands_of}
use Rattle.flash_commands.specs.Laws.{IsEnd}
use Rattle.flash_commands.specs.declared.place.Place.{Place}
use Rattle.flash_commands.specs.declared.place.Place.TheVariants.{AtQuit, TooLong}
use Rattle.flash_session.specs.Talks.{Talk, talk_of}
use Rattle.flash_actors.specs.declared.session_end.SessionEnd.{SessionEnd}
use Rattle.flash_actors.specs.declared.session_end.SessionEnd.TheVariants as ends
use Rattle.flash_actors.specs.Timing.{IsTimed}

-- what the outside of a session tells: the bytes that are left of its source, those that its sink holds, and the
-- readings of its clock
pub record Outside : Type 0 where
  pub left : Option (List ℕ)
  pub held : Option (List ℕ)
  pub given : Option (List ℕ)

-- the talk of a session that read these bytes, and whose steps were told this
abbrev pub talk_over : Geometry → List ℕ → List Told → Talk
talk_over g bytes told = talk_of (commands_of g.item_max bytes).asked told

-- each step that was asked is answered, and all replies were written
pub record IsAnswered (talk : Talk) (told : List Told) (held held_after : Option (List ℕ)) : Type 0 where
  pub each : length told ≡ length talk.asks
  pub written : IsWritten talk.replies held held_after

-- all replies were written where the session ended by itself or by its source, and a front part of them otherwise
abbrev pub HasAnswered : SessionEnd → Talk → List Told → Option (List ℕ) → Option (List ℕ) → Type 0
HasAnswered ends.Quit talk told held held_after = IsAnswered talk told held held_after
HasAnswered ends.End talk told held held_after = IsAnswered talk told held held_after
HasAnswered ends.LineTooLong talk told held held_after = IsAnswered talk told held held_after
HasAnswered ends.SourceFault talk told held held_after = IsAnswered talk told held held_after
HasAnswered ends.UsedUp talk told held held_after = IsBegun talk.replies held held_after
HasAnswered ends.SinkFault talk told held held_after = IsBegun talk.replies held held_after
HasAnswered ends.NoMemory talk told held held_after = IsBegun talk.replies held held_after

-- how the bytes end: by `quit`, by a line that is too long, or by neither
abbrev pub EndsAt : SessionEnd → Place → Type 0
EndsAt ends.Quit place = place ≡ AtQuit
EndsAt ends.LineTooLong place = place ≡ TooLong
EndsAt ends.End place = IsEnd place → ⊥
EndsAt ends.SourceFault place = IsEnd place → ⊥
EndsAt _ place = Unit {0}

-- numbers are used up only where more than 2^64 - 1 steps were asked
abbrev pub IsUsedUp : SessionEnd → Talk → Type 0
IsUsedUp ends.UsedUp talk = 2 ^ 64 - 1 < length talk.asks
IsUsedUp _ talk = Unit {0}

-- a session of pass n, over the journal that it has seen at its end: the journal is a run of the one-thread cache, has
-- no other steps of the pass than those that the bytes read ask, each at its reading of the clock, after the first k,
-- and what was written are the replies by their outcomes
pub record IsHeadline (g : Geometry) (n k : ℕ) (end : SessionEnd) (start after : Outside) (journal : List Entry)
    : Type 0 where
  pub bytes : List ℕ
  pub told : List Told
  pub taken : start.left ≡ with_front bytes after.left
  pub legal : Legal g journal
  pub outcomes : told ≡ outcomes g n journal (length told)
  pub keeps : Keeps (talk_over g bytes told).asks n journal
  pub timed : ForSome after.given (IsTimed g n k journal)
  pub answered : HasAnswered end (talk_over g bytes told) told start.held after.held
  pub place : EndsAt end (commands_of g.item_max bytes).place
  pub used : IsUsedUp end (talk_over g bytes told)

-- the cause of an end, by what is left of the source, and the counts of faults of source and sink, before and after
abbrev pub HasCause : SessionEnd → Option (List ℕ) → ℕ → ℕ → ℕ → ℕ → Type 0
HasCause ends.End left source source_after sink sink_after = IsAtEnd left
HasCause ends.SourceFault left source source_after sink sink_after = Rose source source_after
HasCause ends.SinkFault left source source_after sink sink_after = Rose sink sink_after
HasCause _ left source source_after sink sink_after = Unit {0}
