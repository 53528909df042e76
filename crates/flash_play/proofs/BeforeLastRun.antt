-- The bytes of a session that its turns answer, as the steps are played.
use Rattle.std.proofs.Common.{◌≡◌, ℕ, Bool, true, false, List, [], ◌∷◌, ◌++◌, if◌then◌else◌, refl, ◌∙◌, ap, sym, append_assoc}
use Rattle.std.specs.Prelude.{◌||◌}
use Rattle.std.proofs.lemmas.List.{append-nil}
use Rattle.flash_play.specs.Answers.{bytes_for, bytes_before_last_run, is_run, has_run}
use Rattle.flash_script.specs.Steps.{Step}

-- the bytes before a session's last turn after these steps, where it was given `given` before them, of
-- which `turned` was before its last turn
abbrev pub turned_behind : ℕ → List ℕ → List ℕ → List Step → List ℕ
turned_behind session given turned [] = turned
turned_behind session given turned (step ∷ steps) =
    turned_behind session (given ++ bytes_for session step) (if is_run session step then given else turned) steps

-- steps without a turn give no bytes to one
behind_none : (first more : Bool) (bytes rest : List ℕ) → first || more ≡ false → (more ≡ false → rest ≡ []) → (if more then bytes else []) ++ rest ≡ []
behind_none true more bytes rest none tail = absurd (cc none)
behind_none false true bytes rest none tail = absurd (cc none)
behind_none false false bytes rest none tail = tail refl

-- the bytes before a turn, by whether the first step is one and whether one of the others is
by_turns : (first more : Bool) (given turned bytes rest : List ℕ) → (more ≡ false → rest ≡ [])
    → (if more then (given ++ bytes) ++ rest else (if first then given else turned)) ≡ (if first || more then given ++ ((if more then bytes else []) ++ rest) else turned)
by_turns true true given turned bytes rest tail = append_assoc given bytes rest
by_turns true false given turned bytes rest tail = sym (ap (λ (l : List ℕ). given ++ l) (tail refl) ∙ append-nil given)
by_turns false true given turned bytes rest tail = append_assoc given bytes rest
by_turns false false given turned bytes rest tail = refl

-- and from the first step on
from_first : (more : Bool) (rest : List ℕ) → (more ≡ false → rest ≡ []) → (if more then rest else []) ≡ rest
from_first true rest tail = refl
from_first false rest tail = sym (tail refl)

module _ (session : ℕ) where
  none_turned : (steps : List Step) → has_run session steps ≡ false → bytes_before_last_run session steps ≡ []
  none_turned [] none = refl
  none_turned (step ∷ steps) none =
      behind_none (is_run session step) (has_run session steps) (bytes_for session step) (bytes_before_last_run session steps) none (none_turned steps)

  turned_is : (given turned : List ℕ) (steps : List Step) → turned_behind session given turned steps ≡ (if has_run session steps then given ++ bytes_before_last_run session steps else turned)
  turned_is given turned [] = refl
  turned_is given turned (step ∷ steps) =
      let bytes = bytes_for session step in
      turned_is (given ++ bytes) (if is_run session step then given else turned) steps
      ∙ by_turns (is_run session step) (has_run session steps) given turned bytes (bytes_before_last_run session steps) (none_turned steps)

  -- the steps of a whole script
  pub turned_from_first : (steps : List Step) → turned_behind session [] [] steps ≡ bytes_before_last_run session steps
  turned_from_first steps = turned_is [] [] steps ∙ from_first (has_run session steps) (bytes_before_last_run session steps) (none_turned steps)
