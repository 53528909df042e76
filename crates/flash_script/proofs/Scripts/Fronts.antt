-- The fronts of bytes: how bytes are passed over, and what stands behind a step.
use Rattle.std.proofs.Common.{◌≡◌, ℕ, zero, suc, ◌+◌, ◌-◌, ◌<◌, ◌≤◌, true, false, nat_lt, List, [], ◌∷◌, length, drop, Some, Result, Ok, Err, if◌then◌else◌, option_map, refl, ◌∙◌, ap, arith}
use Rattle.std.specs.Option.{option_and_then}
use Rattle.std.specs.Result.{result_ok}
use Rattle.std.proofs.lemmas.Bool.Decides.{nat_tests}
use Rattle.flash_script.specs.declared.fault.Why.{Why}
use Rattle.flash_script.specs.Scripts.{StepAt, step_at, size_or, size_at, fronts, fault_or, too_long, steps_fault, fault_from, steps_of}
use Rattle.flash_script.proofs.Scripts.Feeds.{sized}

-- to pass over bytes is to drop them
passed : (n : ℕ) (bytes : List ℕ) → fronts n bytes ≡ fronts 0 (drop n bytes)
passed zero bytes = refl
passed (suc n) [] = refl
passed (suc n) (b ∷ bytes) = passed n bytes

-- what is left behind the first byte of some
pass_more : (n b : ℕ) (bytes : List ℕ) → 1 ≤ n → fronts (n - 1) bytes ≡ fronts 0 (drop n (b ∷ bytes))
pass_more zero b bytes some = absurd (omega arith)
pass_more (suc n) b bytes some = let less : suc n - 1 ≡ n = omega arith in ap (λ (k : ℕ). fronts k bytes) less ∙ passed n bytes

-- a step, and the fronts behind it
pub front_more : (bytes : List ℕ) (read : StepAt) → step_at bytes ≡ Ok read → fronts 0 bytes ≡ bytes ∷ fronts 0 (drop read.size bytes)
front_more [] read is = absurd (cc is)
front_more (b ∷ bytes) read is =
    let size : size_at (b ∷ bytes) ≡ read.size = ap (size_or (length (b ∷ bytes))) is in
    ap (λ (n : ℕ). (b ∷ bytes) ∷ fronts (n - 1) bytes) size
    ∙ ap (λ (l : List (List ℕ)). (b ∷ bytes) ∷ l) (pass_more read.size b bytes (sized (b ∷ bytes) read is).some)

module _ (bytes : List ℕ) (read : StepAt) (is : step_at bytes ≡ Ok read) where
  -- a step is before the steps behind it
  pub steps_more : steps_of (fronts 0 bytes) ≡ option_map (λ more. read.step ∷ more) (steps_of (fronts 0 (drop read.size bytes)))
  steps_more =
      ap steps_of (front_more bytes read is)
      ∙ ap (λ (r : Result StepAt Why). option_and_then (λ one. option_map (λ steps. one.step ∷ steps) (steps_of (fronts 0 (drop read.size bytes)))) (result_ok r)) is

  -- and the first fault is one of theirs
  pub fault_more : (line : ℕ) → line ≤ 1048577 → fault_from line bytes ≡ fault_from (line + 1) (drop read.size bytes)
  fault_more line few =
      let later = fault_from (line + 1) (drop read.size bytes) in
      let in_range : nat_lt 1048577 line ≡ false = grind (arith, nat_tests) in
      ap (steps_fault line) (front_more bytes read is) ∙ ap (λ t. if t then too_long else fault_or line (step_at bytes) later) in_range
      ∙ ap (λ (r : Result StepAt Why). fault_or line r later) is

-- a step that is bad is the first fault
pub fault_bad : (bytes : List ℕ) (line : ℕ) (why : Why) → line ≤ 1048577 → 0 < length bytes → step_at bytes ≡ Err why → fault_from line bytes ≡ Some (record { line = line; why = why })
fault_bad [] line why few some is = absurd (omega arith)
fault_bad (b ∷ bytes) line why few some is =
    let in_range : nat_lt 1048577 line ≡ false = grind (arith, nat_tests) in
    let later = steps_fault (line + 1) (fronts (size_at (b ∷ bytes) - 1) bytes) in
    ap (λ t. if t then too_long else fault_or line (step_at (b ∷ bytes)) later) in_range ∙ ap (λ (r : Result StepAt Why). fault_or line r later) is

-- a step too many is the first fault
pub fault_full : (bytes : List ℕ) (line : ℕ) → 1048577 < line → 0 < length bytes → fault_from line bytes ≡ too_long
fault_full [] line many some = absurd (omega arith)
fault_full (b ∷ bytes) line many some =
    let beyond : nat_lt 1048577 line ≡ true = grind (arith, nat_tests) in
    let later = steps_fault (line + 1) (fronts (size_at (b ∷ bytes) - 1) bytes) in
    ap (λ t. if t then too_long else fault_or line (step_at (b ∷ bytes)) later) beyond
