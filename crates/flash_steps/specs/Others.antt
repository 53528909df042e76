-- What a step on one key leaves.
use Rattle.std.specs.Prelude.{◌≡◌, ◌≢◌, ℕ, List}
use Rattle.std.specs.FinMap as map
use Rattle.flash_machine.specs.Cache.{Items}

-- each other key has what it had
abbrev pub OthersStay : List ℕ → Items → Items → Type 0
OthersStay key old new = (other : List ℕ) → other ≢ key → map.get new other ≡ map.get old other
