-- The words of `trace` on the command line.
use Rattle.std.specs.Prelude.{ℕ, Bool, true, false, ◌&&◌, List, [], ◌∷◌, Option, None, Some, codes, if◌then◌else◌}
use Rattle.std.specs.Str.{bytes_eq}

-- whether the journal is wanted, where the words are `trace` or `trace --journal`
abbrev pub journal_wanted : List (List ℕ) → Option Bool
journal_wanted [] = None
journal_wanted (trace ∷ []) = if bytes_eq trace (codes "trace") then Some false else None
journal_wanted (trace ∷ journal ∷ []) =
    if bytes_eq trace (codes "trace") && bytes_eq journal (codes "--journal") then Some true else None
journal_wanted (trace ∷ journal ∷ more) = None
