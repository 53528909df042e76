-- What a source and a sink tell, before and after.
use Rattle.std.specs.Prelude.{ℕ, List, Option}

-- the bytes that the source has left and those that the sink holds, and their counts of faults
pub record Outside : Type 0 where
  pub left : Option (List ℕ)
  pub left_after : Option (List ℕ)
  pub held : Option (List ℕ)
  pub held_after : Option (List ℕ)
  pub source_faults : ℕ
  pub source_faults_after : ℕ
  pub sink_faults : ℕ
  pub sink_faults_after : ℕ

abbrev pub outside : {S K : Type 0} → (S → Option (List ℕ)) → (S → ℕ) → (K → Option (List ℕ)) → (K → ℕ)
    → S → S → K → K → Outside
outside left source_faults held sink_faults source source_after sink sink_after = record {
  left = left source;
  left_after = left source_after;
  held = held sink;
  held_after = held sink_after;
  source_faults = source_faults source;
  source_faults_after = source_faults source_after;
  sink_faults = sink_faults sink;
  sink_faults_after = sink_faults sink_after;
}
