-- A script: its bytes, its first bad line if it has one, and else its geometry and its steps.
use Rattle.std.specs.Prelude.{ℕ, ◌+◌, ◌-◌, zero, suc, ◌&&◌, nat_le, nat_lt, ◌==◌, List, [], ◌∷◌, ◌++◌, length, take, drop, Option, None, Some, Result, Ok, Err, is_none, codes, if◌then◌else◌}
use Rattle.std.specs.Option.{option_and_then, option_map, ok_or}
use Rattle.std.specs.Result.{result_ok, result_map_both}
use Rattle.std.specs.Str.{bytes_eq}
use Rattle.flash_names.specs.declared.geometry.Geometry.{Geometry}
use Rattle.flash_names.specs.Cut.{cut_at}
use Rattle.flash_names.specs.Numbers.{number_of}
use Rattle.flash_names.specs.Words.{words}
use Rattle.flash_entry.specs.declared.geometry_line.HeadFault.{HeadFault}
use Rattle.flash_entry.specs.declared.geometry_line.HeadFault.TheVariants as line_faults
use Rattle.flash_entry.specs.GeometryLine.{geometry_of_line}
use Rattle.flash_script.specs.declared.fault.Why.{Why}
use Rattle.flash_script.specs.declared.fault.Why.TheVariants.{BadWord, BadNumber, Short, TooLong}
use Rattle.flash_script.specs.declared.fault.Why.TheVariants as reasons
use Rattle.flash_script.specs.declared.fault.ScriptFault.{ScriptFault}
use Rattle.flash_script.specs.declared.step_line.StepWord.{StepWord}
use Rattle.flash_script.specs.declared.step_line.StepWord.TheVariants as begins
use Rattle.flash_script.specs.declared.step.Upkeep.TheVariants as upkeeps
use Rattle.flash_script.specs.Steps.{Step, Clock, Say, Feed, Turn, Run, Keep}
use Rattle.flash_script.specs.declared.script.TheConstants.{MAX_BYTES, MAX_STEPS}

-- a script that has no bad line: the geometry of its first line, that line with its line feed, and its steps
pub record Script : Type 0 where
  pub geometry : Geometry
  pub first_line : List ℕ
  pub steps : List Step

-- what is after the first space, where there is one
abbrev pub behind_word : List ℕ → List ℕ
behind_word [] = []
behind_word (b ∷ bytes) = if b == 32 then bytes else behind_word bytes

-- the number of a session, from 1 to 16
abbrev pub session_of : List ℕ → Option ℕ
session_of word = option_and_then (λ n. if nat_le 1 n && nat_le n 16 then Some n else None) (number_of word)

-- the words of the steps that keep a store within its memory
abbrev pub upkeep_word : List ℕ → Option StepWord
upkeep_word word =
    if bytes_eq word (codes "room") then Some (begins.Keep upkeeps.Room)
    else if bytes_eq word (codes "reap") then Some (begins.Keep upkeeps.Reap)
    else if bytes_eq word (codes "juggle") then Some (begins.Keep upkeeps.Juggle)
    else None

-- the words that a step's line may begin with, but for `feed`
abbrev pub step_word : List ℕ → Option StepWord
step_word word =
    if bytes_eq word (codes "clock") then Some begins.Clock
    else if bytes_eq word (codes "say") then Some begins.Say
    else if bytes_eq word (codes "step") then Some begins.Turn
    else if bytes_eq word (codes "run") then Some begins.Run
    else upkeep_word word

-- the step of a line that begins with this word, has these words after it, and this text after its second space:
-- `clock <n>`, `step <s>`, `run <s>`, or `say <s> <text>`, whose text may have spaces or be empty, or `room`, `reap` or
-- `juggle`
abbrev pub step_of_word : StepWord → List (List ℕ) → List ℕ → Result Step Why
step_of_word begins.Clock (number ∷ []) text = ok_or (option_map Clock (number_of number)) BadNumber
step_of_word begins.Turn (number ∷ []) text = ok_or (option_map Turn (session_of number)) BadNumber
step_of_word begins.Run (number ∷ []) text = ok_or (option_map Run (session_of number)) BadNumber
step_of_word begins.Say (number ∷ word ∷ more) text =
    ok_or (option_map (λ session. Say session text) (session_of number)) BadNumber
step_of_word (begins.Keep upkeep) [] text = Ok (Keep upkeep)
step_of_word _ _ _ = Err BadWord

-- the step of a line of these words, with this text after its second space
abbrev pub step_of_words : List (List ℕ) → List ℕ → Result Step Why
step_of_words [] text = Err BadWord
step_of_words (word ∷ more) text =
    elim (step_word word) [ None ↦ Err BadWord | Some begin ↦ step_of_word begin more text ]

-- the step of a line that is a step alone, or why the line is bad
abbrev pub step_of : List ℕ → Result Step Why
step_of line = step_of_words (words line) (behind_word (behind_word line))

-- a step, and the number of its bytes, with its line feeds
pub record StepAt : Type 0 where
  pub step : Step
  pub size : ℕ

-- what the second gives for what was read, where nothing was bad
infixl 10 ◌>>=◌
abbrev pub ◌>>=◌ : {A B : Type 0} → Result A Why → (A → Result B Why) → Result B Why
(Ok x) >>= f = f x
(Err why) >>= f = Err why

-- two words, where there are no more and no fewer
abbrev pub two_of : List (List ℕ) → Option (List ℕ × List ℕ)
two_of (one ∷ two ∷ []) = Some (one, two)
two_of _ = None

-- the bytes of a feed, where a line feed stands behind them
abbrev pub fed_before : List ℕ → List ℕ → Result (List ℕ) Why
fed_before fed [] = Err Short
fed_before fed (b ∷ rest) = if b == 10 then Ok fed else Err BadWord

-- the bytes of a feed of n bytes: the first n of those behind its line
abbrev pub fed_of : ℕ → List ℕ → Result (List ℕ) Why
fed_of n behind = fed_before (take n behind) (drop n behind)

-- the step of a line `feed <s> <n>` that has these words after `feed`, this number of bytes with its line feed, and
-- these bytes behind it; the first of these four that is bad says why
abbrev pub feed_of : List (List ℕ) → ℕ → List ℕ → Result StepAt Why
feed_of more size behind = do
  two ← ok_or (two_of more) BadWord
  n ← ok_or (number_of two.1) BadNumber
  fed ← fed_of n behind
  session ← ok_or (session_of two.0) BadNumber
  Ok (record { step = Feed session fed; size = size + n + 1 })

-- the step of a line that is a step alone, with its line feed
abbrev pub line_step : List ℕ → Result StepAt Why
line_step line = result_map_both (λ step. record { step = step; size = length line + 1 }) (λ why. why) (step_of line)

-- the step of a line of these words, by its first word and by what stands behind it
abbrev pub step_behind : List (List ℕ) → List ℕ → List ℕ → Result StepAt Why
step_behind [] line behind = Err BadWord
step_behind (word ∷ more) line behind =
    if bytes_eq word (codes "feed") then feed_of more (length line + 1) behind else line_step line

-- the step of bytes that are cut at their first line feed
abbrev pub step_cut : Option (List ℕ × List ℕ) → Result StepAt Why
step_cut None = Err Short
step_cut (Some parts) = step_behind (words parts.0) parts.0 parts.1

-- the step at the front of these bytes, or why it is bad
abbrev pub step_at : List ℕ → Result StepAt Why
step_at bytes = step_cut (cut_at 10 bytes)

-- the number of bytes of a step that was read; a bad one has all that there are
abbrev pub size_or : ℕ → Result StepAt Why → ℕ
size_or all (Ok read) = read.size
size_or all (Err why) = all

-- the number of bytes of the step at the front of these bytes
abbrev pub size_at : List ℕ → ℕ
size_at bytes = size_or (length bytes) (step_at bytes)

-- the bytes from each place on at which a step begins, after this many bytes that are passed over
abbrev pub fronts : ℕ → List ℕ → List (List ℕ)
fronts _ [] = []
fronts zero (b ∷ bytes) = (b ∷ bytes) ∷ fronts (size_at (b ∷ bytes) - 1) bytes
fronts (suc k) (b ∷ bytes) = fronts k bytes

-- why the first line is bad, by its fault as the line of a geometry
abbrev pub why_of : HeadFault → Why
why_of line_faults.BadWord = BadWord
why_of line_faults.BadNumber = BadNumber
why_of (line_faults.Geometry rule) = reasons.Geometry rule

-- the geometry of the first line, or why that line is bad
abbrev pub geometry_of : List ℕ → Result Geometry Why
geometry_of line = result_map_both (λ geometry. geometry) why_of (geometry_of_line line)

-- the fault of a line that wasn't read, and else the fault of those after it
abbrev pub fault_or : {A : Type 0} → ℕ → Result A Why → Option ScriptFault → Option ScriptFault
fault_or line (Ok _) later = later
fault_or line (Err why) later = Some (record { line = line; why = why })

-- too many bytes, or too many steps
abbrev pub too_long : Option ScriptFault
too_long = Some (record { line = 0; why = TooLong })

-- the first fault of the steps at these fronts, of which the first is on the line of this number: a script has steps on
-- the lines from 2 to 1,048,577, and a front after these isn't looked at
abbrev pub steps_fault : ℕ → List (List ℕ) → Option ScriptFault
steps_fault line [] = None
steps_fault line (front ∷ more) =
    if nat_lt (MAX_STEPS + 1) line then too_long else fault_or line (step_at front) (steps_fault (line + 1) more)

-- the first fault of the steps of these bytes, of which the first is on the line of this number
abbrev pub fault_from : ℕ → List ℕ → Option ScriptFault
fault_from line bytes = steps_fault line (fronts 0 bytes)

-- the first fault of a script that is cut at its first line feed
abbrev pub cut_fault : Option (List ℕ × List ℕ) → Option ScriptFault
cut_fault None = Some (record { line = 1; why = Short })
cut_fault (Some parts) = fault_or 1 (geometry_of parts.0) (fault_from 2 parts.1)

-- the first bad line of a script, if it has one; a script has at most 16,777,216 bytes
abbrev pub fault_of : List ℕ → Option ScriptFault
fault_of bytes = if nat_lt MAX_BYTES (length bytes) then too_long else cut_fault (cut_at 10 bytes)

-- the steps at fronts that were all read
abbrev pub steps_of : List (List ℕ) → Option (List Step)
steps_of [] = Some []
steps_of (front ∷ more) =
    option_and_then (λ read. option_map (λ steps. read.step ∷ steps) (steps_of more)) (result_ok (step_at front))

-- the script of its parts, where they were all read
abbrev pub script_of_parts : List ℕ → Option Geometry → Option (List Step) → Option Script
script_of_parts first_line geometry steps =
    option_and_then
    (λ g. option_map (λ all. record { geometry = g; first_line = first_line ++ 10 ∷ []; steps = all }) steps)
    geometry

-- the script of bytes that are cut at their first line feed, where all was read
abbrev pub cut_script : Option (List ℕ × List ℕ) → Option Script
cut_script None = None
cut_script (Some parts) = script_of_parts parts.0 (result_ok (geometry_of parts.0)) (steps_of (fronts 0 parts.1))

-- the reading of a script without a bad line
abbrev pub script_of : List ℕ → Option Script
script_of bytes = if is_none (fault_of bytes) then cut_script (cut_at 10 bytes) else None
