-- Lists behind one another.
use Rattle.std.specs.Prelude.{◌≡◌, List, [], ◌∷◌, ◌++◌, length}

-- the elements of the lists, one list behind the other
abbrev pub flat : {X : Type 0} → List (List X) → List X
flat [] = []
flat (xs ∷ rest) = xs ++ flat rest

-- each of the lists has sixteen elements
abbrev pub AreWhole : {X : Type 0} → List (List X) → Type 0
AreWhole [] = Unit {0}
AreWhole (xs ∷ rest) = (length xs ≡ 16) × AreWhole rest
