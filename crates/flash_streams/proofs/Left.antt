-- What is left of a source that tells its bytes.
use Rattle.std.proofs.Common.{◌≡◌, ℕ, List, ◌++◌, Option, None, Some, refl}
use Rattle.flash_names.specs.Told.{with_front}

-- what a source that told all its bytes has left
pub record Leaves (all bytes : List ℕ) (left_after : Option (List ℕ)) : Type 0 where
  pub rest : List ℕ
  pub parts : all ≡ bytes ++ rest
  pub tells : left_after ≡ Some rest

pub leaves : (all bytes : List ℕ) (left_after : Option (List ℕ)) → Some all ≡ with_front bytes left_after → Leaves all bytes left_after
leaves all bytes None taken = absurd (cc taken)
leaves all bytes (Some rest) taken = record { rest = rest; parts = cc; tells = refl }
