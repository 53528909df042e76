-- The pairs of a list whose elements may each have one.
use Rattle.std.specs.Prelude.{List, [], ◌∷◌, Option, None, Some}

-- the list behind what the option has
abbrev pub in_front : {P : Type 0} → Option P → List P → List P
in_front None rest = rest
in_front (Some pair) rest = pair ∷ rest

-- the pairs that the elements have, in order
abbrev pub pairs : {E P : Type 0} → (E → Option P) → List E → List P
pairs pair_of [] = []
pairs pair_of (element ∷ rest) = in_front (pair_of element) (pairs pair_of rest)
