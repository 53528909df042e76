-- What entries make of the heads of a cache.
use Rattle.std.specs.Prelude.{◌≡◌, List}
use Rattle.std.specs.List.{AllByRecursion}
use Rattle.flash_names.specs.declared.geometry.Geometry.{Geometry}
use Rattle.flash_entry.specs.declared.entry.Entry.{Entry}
use Rattle.flash_entry.specs.declared.entry.Entry.TheVariants as entries
use Rattle.flash_machine.specs.Cache.{Cache}
use Rattle.flash_machine.specs.Steps.{next, cache_from}
use Rattle.flash_heads.specs.Heads.{heads}

-- the entry moves no value into memory
abbrev pub BringsNoValue : Entry → Type 0
BringsNoValue (entries.Recached key cas) = ⊥
BringsNoValue _ = Unit {0}

-- the entry moves no value, neither to a page nor into memory
abbrev pub MovesNoValue : Entry → Type 0
MovesNoValue (entries.Moved key cas label) = ⊥
MovesNoValue (entries.Recached key cas) = ⊥
MovesNoValue _ = Unit {0}

-- an entry that moves no value makes of the heads the heads of what it makes
abbrev pub EachEntryIsThatOfTheHeads : Type 0
EachEntryIsThatOfTheHeads =
    (g : Geometry) (h : List Entry) (c : Cache) (e : Entry) → MovesNoValue e
    → next g h (heads c) e ≡ heads (next g h c e)

-- an entry that moves no value into memory makes of the heads what has the heads of what it makes
abbrev pub EachEntryLeavesItsHeads : Type 0
EachEntryLeavesItsHeads =
    (g : Geometry) (h : List Entry) (c : Cache) (e : Entry) → BringsNoValue e
    → heads (next g h c e) ≡ heads (next g h (heads c) e)

-- entries that move no value make of the heads the heads of what they make
abbrev pub EachRunIsThatOfTheHeads : Type 0
EachRunIsThatOfTheHeads =
    (g : Geometry) (h : List Entry) (c : Cache) (es : List Entry) → AllByRecursion MovesNoValue es
    → cache_from g h (heads c) es ≡ heads (cache_from g h c es)

-- entries that move no value into memory make of the heads what has the heads of what they make
abbrev pub EachRunLeavesItsHeads : Type 0
EachRunLeavesItsHeads =
    (g : Geometry) (h : List Entry) (c : Cache) (es : List Entry) → AllByRecursion BringsNoValue es
    → heads (cache_from g h c es) ≡ heads (cache_from g h (heads c) es)
