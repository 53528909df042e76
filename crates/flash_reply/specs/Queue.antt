-- What stands in the queue of replies.
use Rattle.std.specs.Prelude.{◌≡◌, ℕ, List, ◌++◌}

-- what was there before is there, in front of what may be more
pub record IsInFront (before now : List ℕ) : Type 0 where
  pub rest : List ℕ
  pub parts : now ≡ before ++ rest
