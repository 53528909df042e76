-- The end of a source.
use Rattle.std.specs.Prelude.{◌≡◌, ℕ, List, [], Option}
use Rattle.std.specs.Option.{ForSome}

-- where the source tells what is left, nothing is
abbrev pub IsAtEnd : Option (List ℕ) → Type 0
IsAtEnd left = ForSome left (λ bytes. bytes ≡ [])
