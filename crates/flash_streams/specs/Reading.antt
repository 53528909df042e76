-- What was read from a source.
use Rattle.std.specs.Prelude.{◌≡◌, ◌⊎◌, ℕ, ◌+◌, ◌<◌, ◌≤◌, List, length, Option}
use Rattle.flash_names.specs.Source.{IsAtEnd}
use Rattle.flash_names.specs.Told.{with_front}

-- these bytes were read: all that there are, or more than the limit, but by 65,536 at most
pub record HasRead (limit : ℕ) (bytes : List ℕ) (left left_after : Option (List ℕ)) : Type 0 where
  pub taken : left ≡ with_front bytes left_after
  pub whole : IsAtEnd left_after ⊎ (limit < length bytes)
  pub bounded : length bytes ≤ limit + 65536

-- what is left is a rest of what was left before
pub record IsRest (left left_after : Option (List ℕ)) : Type 0 where
  pub front : List ℕ
  pub taken : left ≡ with_front front left_after
