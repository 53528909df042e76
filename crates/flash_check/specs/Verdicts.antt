-- What a checker answers on the bytes of a journal.
use Rattle.std.specs.Prelude.{ℕ, ◌+◌, nat_lt, List, [], ◌∷◌, ◌++◌, length, Option, None, Some, Result, Ok, Err, if◌then◌else◌}
use Rattle.flash_names.specs.declared.geometry.Geometry.{Geometry}
use Rattle.flash_entry.specs.declared.entry.Entry.{Entry}
use Rattle.flash_entry.specs.declared.entry_fault.EntryFault.{EntryFault}
use Rattle.flash_entry.specs.declared.geometry_line.HeadFault.{HeadFault}
use Rattle.flash_entry.specs.GeometryLine.{geometry_of_line}
use Rattle.flash_entry.specs.EntryReading.{reading}
use Rattle.flash_machine.specs.Rules.{rules, broken}
use Rattle.flash_machine.specs.Steps.{cache_of}
use Rattle.flash_check.specs.declared.status.CheckStatus.{CheckStatus}
use Rattle.flash_check.specs.declared.status.CheckStatus.TheVariants.{Legal, Illegal, BadLine}
use Rattle.flash_check.specs.declared.status.TheConstants.{MAX_BYTES}
use Rattle.flash_streams.specs.Lines.{lines_of}

-- the lowest rule that an entry breaks after a journal, where it breaks one
abbrev pub broken_by : Geometry → List Entry → Entry → Option ℕ
broken_by g h e = broken (rules g h (cache_of g h) e)

-- the number of the line after those of a journal's entries: line 1 is the geometry's
abbrev pub next_line : List Entry → ℕ
next_line h = length h + 2

-- the answer on a line whose entry breaks this rule, and where it breaks none, that on the lines after it
abbrev pub by_rule : ℕ → Option ℕ → CheckStatus → CheckStatus
by_rule line None later = later
by_rule line (Some rule) later = Illegal line rule

-- the answer on the line after a journal, as it is read, by the answer on the lines after an entry
abbrev pub by_reading : Geometry → List Entry → Result Entry EntryFault → (Entry → CheckStatus) → CheckStatus
by_reading g h (Err fault) later = BadLine (next_line h)
by_reading g h (Ok e) later = by_rule (next_line h) (broken_by g h e) (later e)

-- the answer on the lines after a journal, and on the bytes after them, which no line feed ends
abbrev pub entries_verdict : Geometry → List Entry → List (List ℕ) → List ℕ → CheckStatus
entries_verdict g h [] [] = Legal (length h)
entries_verdict g h [] (b ∷ rest) = BadLine (next_line h)
entries_verdict g h (line ∷ more) rest =
    by_reading g h (reading line) (λ e. entries_verdict g (h ++ e ∷ []) more rest)

-- the answer on the lines after the first one, as that is read
abbrev pub by_geometry : Result Geometry HeadFault → List (List ℕ) → List ℕ → CheckStatus
by_geometry (Err fault) more rest = BadLine 1
by_geometry (Ok g) more rest = entries_verdict g [] more rest

-- the answer on lines and on the bytes after them
abbrev pub lines_verdict : List (List ℕ) → List ℕ → CheckStatus
lines_verdict [] rest = BadLine 1
lines_verdict (first ∷ more) rest = by_geometry (geometry_of_line first) more rest

-- what a checker answers on all the bytes of a journal, of which there are at most 16,777,216
abbrev pub verdict_on : List ℕ → CheckStatus
verdict_on bytes =
    if nat_lt MAX_BYTES (length bytes) then BadLine 0
    else lines_verdict (lines_of bytes).whole (lines_of bytes).rest
