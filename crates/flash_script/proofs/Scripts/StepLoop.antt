-- A turn of the loop over the steps of a script.
use Rattle.std.proofs.Common.{◌≡◌, ℕ, ◌+◌, ◌≤◌, List, [], ◌∷◌, ◌++◌, map, drop, length, Option, None, Some, Ok, option_map, refl, sym, ◌∙◌, ap, subst, append_assoc, drop-drop}
use Rattle.std.proofs.lemmas.List.{map-append}
use Rattle.flash_script.specs.declared.fault.ScriptFault.{ScriptFault}
use Rattle.flash_script.specs.declared.step.Step as code_step
use Rattle.flash_script.specs.Steps.{Step}
use Rattle.flash_script.specs.CodeScripts.{step_meant, IsWithin, AreWithin}
use Rattle.flash_script.specs.Scripts.{step_at, fronts, steps_of, fault_from}
use Rattle.flash_script.proofs.Scripts.Fronts.{steps_more, fault_more}

-- steps with one more, before the steps that are left
join_pushed : (front : List Step) (s : Step) (rest : Option (List Step)) → option_map (λ more. (front ++ s ∷ []) ++ more) rest ≡ option_map (λ more. front ++ more) (option_map (λ more. s ∷ more) rest)
join_pushed front s None = refl
join_pushed front s (Some more) = ap (λ (l : List Step). Some l) (append_assoc front (s ∷ []) more)

-- one more step that lies in the script
within_push : (size : ℕ) (steps : List code_step.Step) (step : code_step.Step) → AreWithin size steps → IsWithin size step → AreWithin size (steps ++ step ∷ [])
within_push size [] step all one = (one, tt)
within_push size (s ∷ steps) step all one = (all.0, within_push size steps step all.1 one)

module _ (bytes : List ℕ) (start size : ℕ) (steps after : List code_step.Step) (step : code_step.Step) (pushed : after ≡ steps ++ step ∷ []) where
  -- the steps so far still lie in the script
  pub within_more : AreWithin (length bytes) steps → IsWithin (length bytes) step → AreWithin (length bytes) after
  within_more all one = subst (AreWithin (length bytes)) (sym pushed) (within_push (length bytes) steps step all one)

  module _ (read : step_at (drop start bytes) ≡ Ok (record { step = step_meant bytes step; size = size })) where
    -- the steps so far, and those of the bytes that are left
    pub read_more : (all : Option (List Step)) → option_map (λ more. map (step_meant bytes) steps ++ more) (steps_of (fronts 0 (drop start bytes))) ≡ all
        → option_map (λ more. map (step_meant bytes) after ++ more) (steps_of (fronts 0 (drop (start + size) bytes))) ≡ all
    read_more all is =
        let rest = steps_of (fronts 0 (drop (start + size) bytes)) in
        ap (λ (l : List code_step.Step). option_map (λ more. map (step_meant bytes) l ++ more) rest) pushed
        ∙ ap (λ (l : List Step). option_map (λ more. l ++ more) rest) (map-append (step_meant bytes) steps (step ∷ []))
        ∙ join_pushed (map (step_meant bytes) steps) (step_meant bytes step) rest
        ∙ ap (λ (l : List ℕ). option_map (λ (more : List Step). map (step_meant bytes) steps ++ more) (option_map (λ more. step_meant bytes step ∷ more) (steps_of (fronts 0 l)))) (sym (drop-drop size start bytes))
        ∙ ap (option_map (λ (more : List Step). map (step_meant bytes) steps ++ more)) (sym (steps_more (drop start bytes) _ read))
        ∙ is

    -- the faults of the bytes that are left
    pub faults_more : (line count : ℕ) (all : Option ScriptFault) → line ≤ 1048577 → count ≡ line + 1 → fault_from line (drop start bytes) ≡ all → fault_from count (drop (start + size) bytes) ≡ all
    faults_more line count all few counted is =
        ap (λ n. fault_from n (drop (start + size) bytes)) counted
        ∙ ap (fault_from (line + 1)) (sym (drop-drop size start bytes))
        ∙ sym (fault_more (drop start bytes) _ read line few) ∙ is
