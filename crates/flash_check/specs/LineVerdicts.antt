-- What the code decides on one line.
use Rattle.std.specs.Prelude.{◌≡◌, List, [], ◌∷◌, ◌++◌, ℕ, Option, None, Ok}
use Rattle.std.specs.Option.{option_map}
use Rattle.std.specs.Result.{result_ok}
use Rattle.flash_names.specs.declared.geometry.Geometry.{Geometry}
use Rattle.flash_entry.specs.declared.entry.Entry.{Entry}
use Rattle.flash_entry.specs.EntryReading.{reading}
use Rattle.flash_machine.specs.Stands.{StandsFor, verdict_of}
use Rattle.flash_machine.specs.declared.machine.Machine.{Machine}
use Rattle.flash_machine.specs.declared.machine.Verdict.{Verdict}
use Rattle.flash_check.specs.Verdicts.{broken_by}

-- the verdict on the entry of a line after a journal, where the line is read as one
abbrev pub line_verdict : Geometry → List Entry → List ℕ → Option Verdict
line_verdict g h line = option_map (λ e. verdict_of (broken_by g h e)) (result_ok (reading line))

-- where the line is read as an entry that breaks no rule, the machine stands for the journal with it
abbrev pub StandsWith : Machine → Geometry → List Entry → List ℕ → Type 0
StandsWith machine g h line =
    (e : Entry) → reading line ≡ Ok e → broken_by g h e ≡ None → StandsFor machine g (h ++ e ∷ [])
