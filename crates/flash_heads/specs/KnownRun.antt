-- Runs of the one-thread cache that are known by the heads of their cache.
use Rattle.std.specs.Prelude.{◌≡◌, ℕ, List, [], ◌∷◌, ◌++◌, None, Some}
use Rattle.std.specs.List.{AllByRecursion}
use Rattle.std.specs.FinMap as finite
use Rattle.flash_names.specs.declared.place.Label.{Label}
use Rattle.flash_names.specs.declared.geometry.Geometry.{Geometry}
use Rattle.flash_entry.specs.declared.entry.Entry.{Entry}
use Rattle.flash_entry.specs.declared.entry.Entry.TheVariants as entries
use Rattle.flash_machine.specs.Item.{Item, moved_head}
use Rattle.flash_machine.specs.Cache.{Cache, first_cache}
use Rattle.flash_machine.specs.Steps.{cache_from, cache_of}
use Rattle.flash_machine.specs.Legal.{Meets, LegalFrom, Legal}
use Rattle.flash_heads.specs.Heads.{heads}
use Rattle.flash_heads.specs.EntryLaws.{BringsNoValue, MovesNoValue}
use Rattle.flash_heads.specs.Moves.{with_head}

-- the journal is a run of the one-thread cache, and this is the heads of the cache that it makes
pub record IsKnownRun (g : Geometry) (c : Cache) (h : List Entry) : Type 0 where
  pub legal : Legal g h
  pub same : c ≡ heads (cache_of g h)

-- the empty journal is known by the first cache
abbrev pub TheFirstRunIsKnown : Type 0
TheFirstRunIsKnown = (g : Geometry) → IsKnownRun g first_cache []

-- a run that is known by its heads goes on by entries that are legal over them and move no value
abbrev pub AKnownRunGoesOn : Type 0
AKnownRunGoesOn =
    (g : Geometry) (c : Cache) (h es : List Entry) → IsKnownRun g c h → LegalFrom g h c es
    → AllByRecursion MovesNoValue es → IsKnownRun g (cache_from g h c es) (h ++ es)

-- so it does where they move values to pages; what they make of the heads is then hidden
abbrev pub AKnownRunGoesOnByMoves : Type 0
AKnownRunGoesOnByMoves =
    (g : Geometry) (c : Cache) (h es : List Entry) → IsKnownRun g c h → LegalFrom g h c es
    → AllByRecursion BringsNoValue es → IsKnownRun g (heads (cache_from g h c es)) (h ++ es)

-- by one move the heads have the item with its new label, and zeros in place of its value
abbrev pub AKnownRunGoesOnByAMove : Type 0
AKnownRunGoesOnByAMove =
    (g : Geometry) (c : Cache) (h : List Entry) (key : List ℕ) (cas : ℕ) (label : Label) (head : Item)
    → IsKnownRun g c h → Meets g h c (entries.Moved key cas label) → finite.get c.items key ≡ Some head
    → IsKnownRun g (with_head c key (moved_head label head)) (h ++ entries.Moved key cas label ∷ [])

-- it goes on where an item's value is moved into memory; the heads then have the item with its value
abbrev pub AKnownRunGoesOnByARecache : Type 0
AKnownRunGoesOnByARecache =
    (g : Geometry) (c : Cache) (h : List Entry) (key : List ℕ) (cas : ℕ) (item : Item) → IsKnownRun g c h
    → Meets g h c (entries.Recached key cas) → finite.get (cache_of g h).items key ≡ Some item
    → IsKnownRun g (with_head c key (record item { label = None })) (h ++ entries.Recached key cas ∷ [])
