-- What is kept of a lookup of many keys that is under way, and of its keys.
use Rattle.std.specs.Prelude.{◌≡◌, ℕ, ◌+◌, ◌≤◌, Bool, true, false, List, [], ◌∷◌, length, drop, is_some, Option, None, Some}
use Rattle.flash_text.specs.Said.{Said}
use Rattle.flash_text.specs.Words.{spaced_words}
use Rattle.flash_reply.specs.declared.command.Command.{Command}
use Rattle.flash_reply.specs.declared.command.Command.TheVariants.{Text, Meta}
use Rattle.flash_commands.specs.declared.place.Place.{Place}
use Rattle.flash_commands.specs.Asks.{look_of}
use Rattle.flash_commands.specs.Commands.{line_limit, front_of}
use Rattle.flash_commands.specs.Parts.{Asks, Takes}
use Rattle.flash_reader.specs.Readers.{Reads}
use Rattle.flash_session.specs.declared.lookup.Lookup.{Lookup}

-- whether a command looks its keys up
abbrev pub is_lookup : Command → Bool
is_lookup (Text said) = is_some (look_of said.verb said.exptime)
is_lookup (Meta said) = false

-- the command with the keys that are left, by the bytes of all its keys
abbrev pub rest_said : Lookup → List ℕ → Said
rest_said lookup keys = record {
  verb = lookup.verb;
  keys = drop lookup.at keys;
  flags = 0;
  exptime = lookup.exptime;
  length = 0;
  number = 0;
  quiet = lookup.quiet;
}

-- a lookup says what a line says, but for its first keys: as many as steps were done
pub record IsLeftOf (said : Said) (step : ℕ) (lookup : Lookup) (keys : List ℕ) : Type 0 where
  pub looks : is_some (look_of said.verb said.exptime) ≡ true
  pub verb : lookup.verb ≡ said.verb
  pub exptime : lookup.exptime ≡ said.exptime
  pub quiet : lookup.quiet ≡ said.quiet
  pub within : lookup.at ≤ length keys
  pub words : spaced_words (drop lookup.at keys) ≡ drop step (spaced_words said.keys)

-- a lookup before its first step, and the command that it is, whose front has so many bytes
pub record Keeps (lookup : Lookup) (keys : List ℕ) (command : Command) (bytes : ℕ) (next : Place) : Type 0 where
  pub said : Said
  pub is : command ≡ Text said
  pub left : IsLeftOf said 0 lookup keys
  pub bytes_are : lookup.bytes ≡ bytes
  pub next_is : lookup.next ≡ next

-- a lookup is the command at a reader's front, of whose steps so many are done
pub record IsAtFront (reads : Reads) (step : ℕ) (lookup : Lookup) (keys : List ℕ) : Type 0 where
  pub said : Said
  pub block : List ℕ
  pub none_skipped : reads.reader.skip ≡ 0
  pub front : front_of reads.item_max line_limit reads.reader.place reads.reader.unread
      ≡ Takes (Asks (Text said) block ∷ []) lookup.bytes lookup.next
  pub left : IsLeftOf said step lookup keys

-- the same, where a lookup is kept
abbrev pub IsKept : Reads → ℕ → Option Lookup → List ℕ → Type 0
IsKept reads step None keys = Unit {0}
IsKept reads step (Some lookup) keys = IsAtFront reads step lookup keys

-- the words after so many bytes are those after the first one
pub record IsPassed (n : ℕ) (keys : List ℕ) : Type 0 where
  pub within : n ≤ length keys
  pub words : spaced_words (drop n keys) ≡ drop 1 (spaced_words keys)

-- a lookup after one step more
abbrev pub IsOneOn : Lookup → Lookup → List ℕ → Type 0
IsOneOn old new keys = (n : ℕ) × (new ≡ record old { at = old.at + n }) × IsPassed n (drop old.at keys)
