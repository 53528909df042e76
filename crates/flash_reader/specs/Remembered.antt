-- What a reader remembers of its unread bytes, so that it needn't read them again when more come.
use Rattle.std.specs.Prelude.{◌≡◌, ℕ, ◌+◌, ◌≤◌, ◌<◌, List, ◌++◌, length, take, Option, None, Some}
use Rattle.flash_names.specs.Cut.{cut_at}
use Rattle.flash_commands.specs.declared.place.Place.{Place}
use Rattle.flash_commands.specs.Parts.{Meaning, Block, Rest}
use Rattle.flash_commands.specs.Commands.{line_limit, front_of}

-- so many bytes are there, at most those of a line, and none of them is a line feed
pub record IsScanned (n : ℕ) (bytes : List ℕ) : Type 0 where
  pub there : n ≤ length bytes
  pub within : n ≤ line_limit
  pub feedless : cut_at 10 (take n bytes) ≡ None

-- as long as there are fewer bytes than so many, whichever they are, more are needed
abbrev pub IsWanted : ℕ → Place → ℕ → List ℕ → Type 0
IsWanted item_max place n bytes =
    (more : List ℕ) → length (bytes ++ more) < n → front_of item_max line_limit place (bytes ++ more) ≡ Rest

-- how many bytes the block has that a line announces, if it announces one
abbrev pub announced : Meaning → Option ℕ
announced (Block command size) = Some size
announced _ = None

-- how many bytes are wanted after a line of n bytes: itself, the block that it announces and its end; 0 without a block
abbrev pub wanted_with : ℕ → Option ℕ → ℕ
wanted_with n (Some size) = n + size + 2
wanted_with n None = 0
