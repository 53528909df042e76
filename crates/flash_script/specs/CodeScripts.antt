-- What the code's script means, and where its steps lie in the script's bytes.
use Rattle.std.specs.Prelude.{◌≡◌, ◌≤◌, ℕ, List, map, take, slice_range, Option, Some}
use Rattle.std.specs.List.{AllByRecursion}
use Rattle.flash_script.specs.declared.fault.ScriptFault.{ScriptFault}
use Rattle.flash_script.specs.declared.step.Step as code_step
use Rattle.flash_script.specs.declared.step.Step.TheVariants as code
use Rattle.flash_script.specs.declared.script.Script as code_script
use Rattle.flash_script.specs.declared.script.NotRead.{NotRead}
use Rattle.flash_script.specs.declared.script.NotRead.TheVariants.{Fault, NoMemory}
use Rattle.flash_script.specs.Scripts.{Script, StepAt}
use Rattle.flash_script.specs.Steps.{Step, Clock, Say, Feed, Turn, Run, Keep}

-- what the code's step means: a `Say` and a `Feed` name the bytes of the script from the first place up to the last
abbrev pub step_meant : List ℕ → code_step.Step → Step
step_meant bytes (code.Clock reading) = Clock reading
step_meant bytes (code.Say session first last) = Say session.number (slice_range bytes first last)
step_meant bytes (code.Feed session first last) = Feed session.number (slice_range bytes first last)
step_meant bytes (code.Turn session) = Turn session.number
step_meant bytes (code.Run session) = Run session.number
step_meant bytes (code.Keep upkeep) = Keep upkeep

-- what the code's step with the number of its bytes means
abbrev pub step_at_meant : List ℕ → code_step.Step × ℕ → StepAt
step_at_meant bytes read = record { step = step_meant bytes read.0; size = read.1 }

-- what the code's script means
abbrev pub script_meant : List ℕ → code_script.Script → Script
script_meant bytes script =
    record {
      geometry = script.geometry;
      first_line = take script.steps_offset bytes;
      steps = map (step_meant bytes) script.steps.items;
    }

-- places of a script of this length
pub record IsRange (first : ℕ) (last : ℕ) (size : ℕ) : Type 0 where
  pub order : first ≤ last
  pub within : last ≤ size

-- the bytes of a step lie in a script of this length
abbrev pub IsWithin : ℕ → code_step.Step → Type 0
IsWithin size (code.Clock reading) = Unit {0}
IsWithin size (code.Say session first last) = IsRange first last size
IsWithin size (code.Feed session first last) = IsRange first last size
IsWithin size (code.Turn session) = Unit {0}
IsWithin size (code.Run session) = Unit {0}
IsWithin size (code.Keep upkeep) = Unit {0}

-- the same of steps
abbrev pub AreWithin : ℕ → List code_step.Step → Type 0
AreWithin size steps = AllByRecursion (IsWithin size) steps

-- a script wasn't read because of this fault, or because memory ran out
abbrev pub IsFault : Option ScriptFault → NotRead → Type 0
IsFault found (Fault fault) = found ≡ Some fault
IsFault found NoMemory = Unit {0}
