-- A script by its first line.
use Rattle.std.proofs.Common.{◌≡◌, ℕ, ◌+◌, ◌≤◌, ◌<◌, true, false, nat_lt, List, length, take, drop, Option, None, Some, Result, Ok, Err, if◌then◌else◌, sym, ◌∙◌, ap, arith}
use Rattle.std.specs.Prelude.{is_none}
use Rattle.std.specs.Result.{result_ok, result_map_both}
use Rattle.std.proofs.lemmas.Bool.Decides.{nat_tests}
use Rattle.flash_names.specs.declared.geometry.Geometry.{Geometry}
use Rattle.flash_names.specs.Cut.{cut_at}
use Rattle.flash_entry.specs.declared.geometry_line.HeadFault.{HeadFault}
use Rattle.flash_entry.specs.GeometryLine.{geometry_of_line}
use Rattle.flash_script.specs.declared.fault.Why.{Why}
use Rattle.flash_script.specs.declared.fault.Why.TheVariants.{Short, TooLong}
use Rattle.flash_script.specs.declared.fault.ScriptFault.{ScriptFault}
use Rattle.flash_script.specs.Steps.{Step}
use Rattle.flash_script.specs.Scripts.{why_of, fault_or, too_long, fronts, fault_from, cut_fault, fault_of, steps_of, script_of_parts, cut_script, script_of}
use Rattle.flash_script.proofs.Scripts.Cuts.{cut_behind, cut_front}

-- where the bytes aren't too many, the cut says the fault
pub by_cut : (bytes : List ℕ) → length bytes ≤ 16777216 → fault_of bytes ≡ cut_fault (cut_at 10 bytes)
by_cut bytes small =
    let in_size : nat_lt 16777216 (length bytes) ≡ false = grind (arith, nat_tests) in
    ap (λ t. if t then too_long else cut_fault (cut_at 10 bytes)) in_size

-- too many bytes
pub too_many_bytes : (bytes : List ℕ) → 16777216 < length bytes → fault_of bytes ≡ Some (record { line = 0; why = TooLong })
too_many_bytes bytes long =
    let beyond : nat_lt 16777216 (length bytes) ≡ true = grind (arith, nat_tests) in
    ap (λ t. if t then too_long else cut_fault (cut_at 10 bytes)) beyond

-- bytes without a line feed
pub fault_no_line : (bytes : List ℕ) → length bytes ≤ 16777216 → cut_at 10 bytes ≡ None → fault_of bytes ≡ Some (record { line = 1; why = Short })
fault_no_line bytes small cut = by_cut bytes small ∙ ap cut_fault cut

module _ (bytes first_line behind : List ℕ) (small : length bytes ≤ 16777216) (cut : cut_at 10 bytes ≡ Some (first_line, behind)) where
  behind_is : drop (length first_line + 1) bytes ≡ behind
  behind_is = cut_behind 10 bytes first_line behind cut

  -- the first fault, by how the first line was read
  fault_is : (r : Result Geometry HeadFault) → geometry_of_line first_line ≡ r → fault_of bytes ≡ fault_or 1 (result_map_both (λ geometry. geometry) why_of r) (fault_from 2 (drop (length first_line + 1) bytes))
  fault_is r read =
      by_cut bytes small ∙ ap cut_fault cut
      ∙ ap (λ (r : Result Geometry HeadFault). fault_or 1 (result_map_both (λ geometry. geometry) why_of r) (fault_from 2 behind)) read
      ∙ ap (λ (l : List ℕ). fault_or 1 (result_map_both (λ geometry. geometry) why_of r) (fault_from 2 l)) (sym behind_is)

  -- a first line that is bad is the first fault
  pub fault_first_line : (fault : HeadFault) → geometry_of_line first_line ≡ Err fault → fault_of bytes ≡ Some (record { line = 1; why = why_of fault })
  fault_first_line fault read = fault_is (Err fault) read

  module _ (geometry : Geometry) (read : geometry_of_line first_line ≡ Ok geometry) where
    -- and else it is one of the steps'
    pub fault_behind : fault_of bytes ≡ fault_from 2 (drop (length first_line + 1) bytes)
    fault_behind = fault_is (Ok geometry) read

    -- the reading of a script without a fault
    pub script_is : (steps : List Step) → fault_from 2 (drop (length first_line + 1) bytes) ≡ None → steps_of (fronts 0 (drop (length first_line + 1) bytes)) ≡ Some steps
        → script_of bytes ≡ Some (record { geometry = geometry; first_line = take (length first_line + 1) bytes; steps = steps })
    script_is steps good are =
        ap (λ (f : Option ScriptFault). if is_none f then cut_script (cut_at 10 bytes) else None) (fault_behind ∙ good) ∙ ap cut_script cut
        ∙ ap (λ (r : Result Geometry HeadFault). script_of_parts first_line (result_ok (result_map_both {D = Why} (λ geometry. geometry) why_of r)) (steps_of (fronts 0 behind))) read
        ∙ ap (λ (l : List ℕ). script_of_parts first_line (Some geometry) (steps_of (fronts 0 l))) (sym behind_is)
        ∙ ap (script_of_parts first_line (Some geometry)) are
        ∙ ap (λ (h : List ℕ). Some (record { geometry = geometry; first_line = h; steps = steps })) (sym (cut_front 10 bytes first_line behind cut))
