-- Bytes that are cut at a byte.
use Rattle.std.specs.Prelude.{ℕ, List, [], ◌∷◌, Option, None, Some, ◌==◌, if◌then◌else◌}
use Rattle.std.specs.Option.{option_map}

-- what is before the first such byte and what is after it, where there is one
abbrev pub cut_at : ℕ → List ℕ → Option (List ℕ × List ℕ)
cut_at c [] = None
cut_at c (b ∷ bytes) =
    if b == c then Some ([], bytes) else option_map (λ parts. (b ∷ parts.0, parts.1)) (cut_at c bytes)
