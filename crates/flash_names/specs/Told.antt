-- What an object of the outside may tell: a list, or nothing.
use Rattle.std.specs.Prelude.{List, ◌++◌, Option}
use Rattle.std.specs.Option.{option_map}

-- xs, and then what is told, where something is told
abbrev pub with_front : {T : Type 0} → List T → Option (List T) → Option (List T)
with_front xs told = option_map (λ rest. xs ++ rest) told

-- what is told, where something is told, and then xs
abbrev pub with_more : {T : Type 0} → List T → Option (List T) → Option (List T)
with_more xs told = option_map (λ front. front ++ xs) told
