-- Bytes of one line.
use Rattle.std.specs.Prelude.{◌≡◌, ℕ, ◌==◌, not, List, true}
use Rattle.std.specs.List.{list_all}

-- none of the bytes is a line feed
abbrev pub IsOneLine : List ℕ → Type 0
IsOneLine bytes = list_all (λ b. not (b == 10)) bytes ≡ true
