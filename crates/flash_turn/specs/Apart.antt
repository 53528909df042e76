-- The numbers of two passes at hand.
use Rattle.std.specs.Prelude.{◌≢◌, ℕ, List, Option}
use Rattle.std.specs.List.{Contains}
use Rattle.flash_turn.specs.declared.pass.Pass.{Pass}
use Rattle.flash_turn.specs.declared.turn.Turn.{Turn}
use Rattle.flash_turn.specs.Passes.{number_of}
use Rattle.flash_turn.specs.Splitting.{known_numbers, IsSplitOff}

-- a pass that was split off another has none of the numbers that the other knew to be given
abbrev pub NumbersDiffer : {T E O X F : Type 0} → (T → Option (List E)) → (T → List (ℕ × O)) → (T → X) → (T → F)
    → Type 0
NumbersDiffer {T} story own face fixed =
    (turn : Turn T) (old new : Pass T) → IsSplitOff story own face fixed turn old new
    → (n : ℕ) → Contains (known_numbers old) n → n ≢ number_of new
