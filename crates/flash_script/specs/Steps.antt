-- The steps of a script.
use Rattle.std.specs.Prelude.{ℕ, ◌≤◌, List}
use Rattle.std.specs.List.{AllByRecursion}
use Rattle.flash_script.specs.declared.step.Upkeep.{Upkeep}

-- a reading of the clock, bytes and a line end for a session, bytes alone, a session's next turn, its turns until
-- there is none left, or upkeep of the store
pub data Step : Type 0 where
  Clock : ℕ → Step
  Say : ℕ → List ℕ → Step
  Feed : ℕ → List ℕ → Step
  Turn : ℕ → Step
  Run : ℕ → Step
  Keep : Upkeep → Step

-- the number is one of a session
pub record IsSession (number : ℕ) : Type 0 where
  pub some : 1 ≤ number
  pub within : number ≤ 16

-- the step's session is one
abbrev pub IsSeated : Step → Type 0
IsSeated (Clock reading) = Unit {0}
IsSeated (Say session bytes) = IsSession session
IsSeated (Feed session bytes) = IsSession session
IsSeated (Turn session) = IsSession session
IsSeated (Run session) = IsSession session
IsSeated (Keep upkeep) = Unit {0}

-- the same of each step
abbrev pub AreSeated : List Step → Type 0
AreSeated steps = AllByRecursion IsSeated steps
