-- What the definition of an orderly journal says of every journal.
use Rattle.std.specs.Prelude.{List, [], ◌∷◌, ◌++◌}
use Rattle.flash_names.specs.declared.geometry.Geometry.{Geometry}
use Rattle.flash_entry.specs.declared.entry.Entry.{Entry}
use Rattle.flash_machine.specs.Legal.{Legal}
use Rattle.flash_machine.specs.Orderly.{IsOrderly, OrderlyFrom, Orderly}

-- each run of the one-thread cache is orderly
abbrev pub EveryRunIsOrderly : Type 0
EveryRunIsOrderly = (g : Geometry) (h : List Entry) → Legal g h → Orderly g h

-- a journal is orderly where its front is and its last entry keeps the rules over that front
abbrev pub OrderlyGoesOn : Type 0
OrderlyGoesOn = (g : Geometry) (h : List Entry) (e : Entry) → Orderly g h → IsOrderly g h e → Orderly g (h ++ e ∷ [])

-- an orderly journal goes on by any entries that keep the rules, one after the other
abbrev pub OrderlyGoesOnBy : Type 0
OrderlyGoesOnBy = (g : Geometry) (h es : List Entry) → Orderly g h → OrderlyFrom g h es → Orderly g (h ++ es)

-- each front of an orderly journal is orderly, and the entry after it keeps the rules over it
abbrev pub EachFrontIsOrderly : Type 0
EachFrontIsOrderly =
    (g : Geometry) (h : List Entry) (e : Entry) (es : List Entry) → Orderly g (h ++ e ∷ es)
    → Orderly g h × IsOrderly g h e
