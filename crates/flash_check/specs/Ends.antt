-- How a check ends, by what its source and its sink tell before it and after it.
use Rattle.std.specs.Prelude.{◌≡◌, ◌≢◌, ℕ, Bool, true, false, List, Option, Some}
use Rattle.flash_names.specs.Source.{IsAtEnd}
use Rattle.flash_names.specs.Faults.{Rose}
use Rattle.flash_streams.specs.Reading.{HasRead}
use Rattle.flash_streams.specs.Writing.{IsWritten, IsBegun}
use Rattle.flash_check.specs.declared.status.CheckStatus.{CheckStatus}
use Rattle.flash_check.specs.declared.status.CheckStatus.TheVariants as statuses
use Rattle.flash_check.specs.declared.status.TheConstants.{MAX_BYTES}
use Rattle.flash_check.specs.Outside.{Outside}
use Rattle.flash_check.specs.Texts.{answer_text}
use Rattle.flash_check.specs.Verdicts.{verdict_on}

-- The answer is that on the bytes that were read, and its line was written and nothing else. Nothing is left of the
-- source, unless the bytes were too many, and where the source tells all its bytes, it is the answer on them.
pub record IsAnswered (status : CheckStatus) (told : Outside) : Type 0 where
  pub bytes : List ℕ
  pub read : HasRead MAX_BYTES bytes told.left told.left_after
  pub answer : verdict_on bytes ≡ status
  pub of_all : (all : List ℕ) → told.left ≡ Some all → verdict_on all ≡ status
  pub at_end : status ≢ statuses.BadLine 0 → IsAtEnd told.left_after
  pub written : IsWritten (answer_text status) told.held told.held_after

-- the bytes were read, and a front part of the line of their answer was written
pub record IsCutOff (told : Outside) : Type 0 where
  pub bytes : List ℕ
  pub read : HasRead MAX_BYTES bytes told.left told.left_after
  pub begun : IsBegun (answer_text (verdict_on bytes)) told.held told.held_after

-- how a check whose words ask for it ends
abbrev pub IsChecked : Outside → CheckStatus → Type 0
IsChecked told (statuses.Legal entries) = IsAnswered (statuses.Legal entries) told
IsChecked told (statuses.Illegal line rule) = IsAnswered (statuses.Illegal line rule) told
IsChecked told (statuses.BadLine line) = IsAnswered (statuses.BadLine line) told
IsChecked told statuses.SinkFault = IsCutOff told
IsChecked told statuses.Usage = Unit {0}
IsChecked told statuses.SourceFault = Unit {0}
IsChecked told statuses.NoMemory = Unit {0}

-- a fault comes only where the count of the object that is at fault rose
abbrev pub HasCause : Outside → CheckStatus → Type 0
HasCause told statuses.SourceFault = Rose told.source_faults told.source_faults_after
HasCause told statuses.SinkFault = Rose told.sink_faults told.sink_faults_after
HasCause told _ = Unit {0}

-- whether a check that ends so has written nothing
abbrev pub writes_nothing : CheckStatus → Bool
writes_nothing statuses.Usage = true
writes_nothing statuses.SourceFault = true
writes_nothing statuses.NoMemory = true
writes_nothing _ = false

-- How a check of these bytes ends, by what its sink held and how often it failed, before and after
abbrev pub IsSaid : List ℕ → Option (List ℕ) → Option (List ℕ) → ℕ → ℕ → CheckStatus → Type 0
IsSaid bytes held held_after faults faults_after statuses.NoMemory = Unit {0}
IsSaid bytes held held_after faults faults_after statuses.SinkFault =
    Rose faults faults_after × IsBegun (answer_text (verdict_on bytes)) held held_after
IsSaid bytes held held_after faults faults_after statuses.Usage = ⊥
IsSaid bytes held held_after faults faults_after statuses.SourceFault = ⊥
IsSaid bytes held held_after faults faults_after answer =
    (verdict_on bytes ≡ answer) × IsWritten (answer_text answer) held held_after
