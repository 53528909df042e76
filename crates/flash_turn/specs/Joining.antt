-- What joining two passes leaves.
use Rattle.std.specs.Prelude.{◌≡◌, ◌≢◌, List, Option}
use Rattle.flash_names.specs.Shared.{Begins, longer}
use Rattle.flash_turn.specs.declared.pass.Pass.{Pass}
use Rattle.flash_turn.specs.Passes.{view_of, number_of, seen}

-- The pass keeps its number and what it left and took, and has seen the longer of both stories, which begins with
-- either. The two numbers were different
pub record Joined {T E : Type 0} (story : T → Option (List E)) (old other new : Pass T) : Type 0 where
  pub number : number_of new ≡ number_of old
  pub took : (view_of new).took ≡ (view_of old).took
  pub left : (view_of new).left ≡ (view_of old).left
  pub longer_seen : seen story new ≡ longer (seen story old) (seen story other)
  pub begins_own : Begins (seen story old) (seen story new)
  pub begins_other : Begins (seen story other) (seen story new)
  pub apart : number_of old ≢ number_of other
