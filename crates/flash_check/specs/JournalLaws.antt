-- Which bytes are a journal that is a run, and that these are the ones that a checker answers so.
use Rattle.std.specs.Prelude.{◌≡◌, ◌↔◌, ℕ, ◌≤◌, List, ◌∷◌, ◌++◌, length, Ok}
use Rattle.std.specs.List.{flat_map, AllByRecursion}
use Rattle.flash_names.specs.declared.geometry.Geometry.{Geometry}
use Rattle.flash_entry.specs.declared.entry.Entry.{Entry}
use Rattle.flash_entry.specs.IsEntry.{IsEntry}
use Rattle.flash_entry.specs.EntryText.{entry_line}
use Rattle.flash_entry.specs.GeometryLine.{geometry_of_line}
use Rattle.flash_entry.specs.OneLine.{IsOneLine}
use Rattle.flash_machine.specs.Legal as runs
use Rattle.flash_check.specs.declared.status.CheckStatus.TheVariants.{Legal}
use Rattle.flash_check.specs.declared.status.TheConstants.{MAX_BYTES}
use Rattle.flash_check.specs.Verdicts.{verdict_on}

-- The bytes are one good `store` line and the lines of so many entries, each ended by a line feed, and these entries
-- are a run of the one-thread cache of that geometry.
pub record IsRun (entries : ℕ) (bytes : List ℕ) : Type 0 where
  pub geometry : Geometry
  pub first_line : List ℕ
  pub journal : List Entry
  pub bytes_are : bytes ≡ first_line ++ 10 ∷ flat_map entry_line journal
  pub few : length bytes ≤ MAX_BYTES
  pub one_line : IsOneLine first_line
  pub store_line : geometry_of_line first_line ≡ Ok geometry
  pub fit : AllByRecursion IsEntry journal
  pub legal : runs.Legal geometry journal
  pub count : length journal ≡ entries

-- a checker answers `Legal` with a number of entries exactly on the bytes of a run of so many
abbrev pub EachRunIsLegal : Type 0
EachRunIsLegal = (bytes : List ℕ) (entries : ℕ) → (verdict_on bytes ≡ Legal entries) ↔ IsRun entries bytes
