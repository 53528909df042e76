-- What a trace writes.
use Rattle.std.specs.Prelude.{ℕ, ◌+◌, Bool, List, [], ◌∷◌, ◌++◌, length, map, Option, None, Some, codes, decimal, if◌then◌else◌}
use Rattle.std.specs.List.{flat_map}
use Rattle.std.specs.Option.{option_map}
use Rattle.flash_entry.specs.declared.entry.Entry.{Entry}
use Rattle.flash_entry.specs.EntryText.{entry_line}
use Rattle.flash_script.specs.declared.fault.Why.{Why}
use Rattle.flash_script.specs.declared.fault.Why.TheVariants.{BadWord, BadNumber, Short, TooLong}
use Rattle.flash_script.specs.declared.fault.Why.TheVariants as reasons
use Rattle.flash_script.specs.declared.fault.ScriptFault.{ScriptFault}
use Rattle.flash_play.specs.Playing.{Seat, play_of}
use Rattle.flash_script.specs.Scripts.{Script, fault_of, script_of}

-- a session's line, what it was answered, and a line feed, where it was made
abbrev pub session_text : ℕ → Option (List ℕ) → List ℕ
session_text number None = []
session_text number (Some replies) =
    codes "session " ++ decimal number ++ 32 ∷ decimal (length replies) ++ 10 ∷ replies ++ 10 ∷ []

-- the sessions from this number on
abbrev pub sessions_text : ℕ → List (Option (List ℕ)) → List ℕ
sessions_text number [] = []
sessions_text number (replies ∷ more) = session_text number replies ++ sessions_text (number + 1) more

-- the journal after the script's first line, with its line feed
abbrev pub journal_text : List ℕ → List Entry → List ℕ
journal_text first_line journal =
    codes "journal " ++ decimal (length journal) ++ 10 ∷ first_line ++ flat_map entry_line journal

-- the same where it is wanted
abbrev pub journal_if : Bool → List ℕ → List Entry → List ℕ
journal_if wanted first_line journal = if wanted then journal_text first_line journal else []

-- what a trace of so many steps has printed, what its sessions were answered, and its journal
abbrev pub play_text : List ℕ → List (Option (List ℕ)) → List ℕ → ℕ → List ℕ
play_text printed answered journal steps =
    printed ++ sessions_text 1 answered ++ journal ++ codes "end " ++ decimal steps ++ 10 ∷ []

-- what the sessions were answered, as far as they are made
abbrev pub answered : List (Option Seat) → List (Option (List ℕ))
answered seats = map (option_map (λ seat. seat.replies)) seats

-- the whole output of a script, with the journal or without
abbrev pub output : Script → Bool → List ℕ
output script with_journal =
    let play = play_of script.geometry script.steps in
    play_text play.printed (answered play.seats) (journal_if with_journal script.first_line play.kept.journal)
    (length script.steps)

abbrev pub why_text : Why → List ℕ
why_text BadWord = codes "bad-word"
why_text BadNumber = codes "bad-number"
why_text (reasons.Geometry rule) = codes "geometry-" ++ decimal rule
why_text Short = codes "short"
why_text TooLong = codes "too-long"

-- the whole output of a script with a bad line
abbrev pub fault_text : ScriptFault → List ℕ
fault_text fault = codes "script " ++ decimal fault.line ++ 32 ∷ why_text fault.why ++ 10 ∷ []

-- what is written for a script with a bad line, or for one without
abbrev pub fault_or_output : Option ScriptFault → Option Script → Bool → List ℕ
fault_or_output (Some fault) script with_journal = fault_text fault
fault_or_output None (Some script) with_journal = output script with_journal
fault_or_output None None with_journal = []

-- what is written for a script of these bytes
abbrev pub text_of : List ℕ → Bool → List ℕ
text_of bytes with_journal = fault_or_output (fault_of bytes) (script_of bytes) with_journal
