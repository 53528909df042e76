-- What a session has, and what its calls make of it.
use Rattle.std.specs.Prelude.{ℕ, ◌+◌, Bool, true, false, List, [], ◌∷◌, ◌++◌, length, drop, nat_le, slice_get, Option, None, Some, if◌then◌else◌}
use Rattle.flash_entry.specs.declared.ask.Ask.{Ask}
use Rattle.flash_entry.specs.declared.found.Told.{Told}
use Rattle.flash_reply.specs.declared.command.Command.{Command}
use Rattle.flash_reply.specs.Lines.{refusal_line}
use Rattle.flash_reply.specs.Replies.{text, plain_text}
use Rattle.flash_commands.specs.declared.place.Place.{Place}
use Rattle.flash_commands.specs.declared.place.Place.TheVariants.{InLine}
use Rattle.flash_commands.specs.Parts.{Asks, Refused, Front, Takes}
use Rattle.flash_commands.specs.Commands.{line_limit, front_of}
use Rattle.flash_commands.specs.Asks.{asks_of}
use Rattle.flash_reader.specs.Readers.{Reads, taken}
use Rattle.flash_session.specs.Talks.{ends_command}

-- its pass, its reader, how many steps of the command at the reader's front were answered, whether an answer is owed,
-- the number of the last step, and the replies that weren't sent
pub record Session : Type 0 where
  pub pass : ℕ
  pub reads : Reads
  pub step : ℕ
  pub owed : Bool
  pub last : ℕ
  pub out : List ℕ

-- a session that was fed nothing
abbrev pub first_session : ℕ → ℕ → Session
first_session pass item_max = record {
  pass = pass;
  reads = record { item_max = item_max; reader = record { skip = 0; place = InLine; unread = [] } };
  step = 0;
  owed = false;
  last = 0;
  out = [];
}

-- the front of what it hasn't read
abbrev pub front_now : Session → Front
front_now s = front_of s.reads.item_max line_limit s.reads.reader.place s.reads.reader.unread

-- a session that takes its front, of so many bytes, and replies
abbrev pub after_front : Session → ℕ → Place → List ℕ → Session
after_front s n next reply = record s {
  reads = record s.reads { reader = taken s.reads.reader n next };
  step = 0;
  out = s.out ++ reply;
}

-- a front that is read at once: a refusal, a command that makes no step, or bytes that ask nothing
abbrev pub read_plain : Session → Command → List Ask → ℕ → Place → Option Session
read_plain s command [] n next = Some (after_front s n next (plain_text command))
read_plain s command (ask ∷ asks) n next = None

abbrev pub read_at_once : Session → Front → Option Session
read_at_once s (Takes [] n next) = Some (after_front s n next [])
read_at_once s (Takes (Refused refusal ∷ []) n next) = Some (after_front s n next (refusal_line refusal))
read_at_once s (Takes (Asks command block ∷ []) n next) = read_plain s command (asks_of command block) n next
read_at_once s _ = None

-- the step that is next at a front, if one is
abbrev pub ask_at : ℕ → Front → Option Ask
ask_at step (Takes (Asks command block ∷ []) n next) = slice_get (asks_of command block) step
ask_at step _ = None

-- a session that asks its next step
abbrev pub asking : Session → Session
asking s = record s { owed = true; last = s.last + 1 }

-- a command is done after a step without memory, or its last
abbrev pub is_done : Told → ℕ → List Ask → Bool
is_done answer step asks = if ends_command answer then true else nat_le (length asks) step

-- a session that is told the answer to its step
abbrev pub told_at : Session → Front → Told → Session
told_at s (Takes (Asks command block ∷ []) n next) answer =
    let reply = text command (s.step + 1) answer in
    if is_done answer (s.step + 1) (asks_of command block)
    then record (after_front s n next reply) { owed = false }
    else record s { owed = false; step = s.step + 1; out = s.out ++ reply }
told_at s _ answer = s

-- a session of which so many bytes were sent
abbrev pub sent : Session → ℕ → Session
sent s n = record s { out = drop n s.out }
