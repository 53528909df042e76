-- What a source, a sink and a device tell, before and after.
use Rattle.std.specs.Prelude.{ℕ, List, Option}
use Rattle.flash_device.specs.declared.shape.Shape.{Shape}
use Rattle.flash_device.specs.Calls.{Calls}

-- the bytes that a source has left, and its count of faults
pub record SourceChange : Type 0 where
  pub left : Option (List ℕ)
  pub left_after : Option (List ℕ)
  pub faults : ℕ
  pub faults_after : ℕ

abbrev pub source_change : {S : Type 0} → (S → Option (List ℕ)) → (S → ℕ) → S → S → SourceChange
source_change left faults before after =
    record { left = left before; left_after = left after; faults = faults before; faults_after = faults after }

-- the bytes that a sink holds, and its count of faults
pub record SinkChange : Type 0 where
  pub held : Option (List ℕ)
  pub held_after : Option (List ℕ)
  pub faults : ℕ
  pub faults_after : ℕ

abbrev pub sink_change : {K : Type 0} → (K → Option (List ℕ)) → (K → ℕ) → K → K → SinkChange
sink_change held faults before after =
    record { held = held before; held_after = held after; faults = faults before; faults_after = faults after }

-- what a device is prepared for afterwards, its calls, and its count of faults
pub record DeviceChange : Type 0 where
  pub prepared_after : Option Shape
  pub calls : Option Calls
  pub calls_after : Option Calls
  pub faults : ℕ
  pub faults_after : ℕ

abbrev pub device_change : {D : Type 0} → (D → Option Shape) → (D → Option Calls) → (D → ℕ) → D → D → DeviceChange
device_change prepared calls faults before after = record {
  prepared_after = prepared after;
  calls = calls before;
  calls_after = calls after;
  faults = faults before;
  faults_after = faults after;
}
