-- What was written to a sink.
use Rattle.std.specs.Prelude.{◌≡◌, ℕ, List, ◌++◌, Option}
use Rattle.flash_names.specs.Told.{with_more}

-- these bytes were written, and none after them
abbrev pub IsWritten : List ℕ → Option (List ℕ) → Option (List ℕ) → Type 0
IsWritten bytes held held_after = held_after ≡ with_more bytes held

-- a front part of them was written
pub record IsBegun (bytes : List ℕ) (held held_after : Option (List ℕ)) : Type 0 where
  pub front : List ℕ
  pub rest : List ℕ
  pub parts : bytes ≡ front ++ rest
  pub written : IsWritten front held held_after
