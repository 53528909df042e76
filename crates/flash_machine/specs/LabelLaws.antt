-- What an orderly journal says of the labels of pages.
use Rattle.std.specs.Prelude.{◌≡◌, ℕ, ◌+◌, ◌<◌, ◌≤◌, Bool, true, false, List, [], ◌∷◌, ◌++◌, Some}
use Rattle.std.specs.List.{list_any}
use Rattle.flash_names.specs.declared.place.Label.{Label}
use Rattle.flash_names.specs.declared.geometry.Geometry.{Geometry}
use Rattle.flash_names.specs.Labels.{same_label}
use Rattle.flash_entry.specs.declared.entry.Entry.{Entry}
use Rattle.flash_entry.specs.declared.entry.Entry.TheVariants as entries
use Rattle.flash_machine.specs.Live.{label_has_ended}
use Rattle.flash_machine.specs.PageLabels.{page_label, last_version, free_pages}
use Rattle.flash_machine.specs.Orderly.{Orderly}
use Rattle.flash_machine.specs.Splits.{journal_of_two}

-- each label that is opened has a greater version than all labels that were opened before it
abbrev pub VersionsRise : Type 0
VersionsRise =
    (g : Geometry) (before between after : List Entry) (first second : Label)
    → Orderly g (journal_of_two before (entries.Opened first) between (entries.Opened second) after)
    → first.version < second.version

-- no label that a page has, that was opened, or that has ended has a version above the last one
pub record AreUpToLast (h : List Entry) : Type 0 where
  pub has : (page : ℕ) (label : Label) → page_label page h ≡ Some label → label.version ≤ last_version h
  pub opened : (before after : List Entry) (label : Label) → h ≡ before ++ entries.Opened label ∷ after
      → label.version ≤ last_version h
  pub ended : (label : Label) → label_has_ended h (Some label) ≡ true → label.version ≤ last_version h

-- no label of an orderly journal has a version above the last one
abbrev pub NoVersionIsAboveTheLast : Type 0
NoVersionIsAboveTheLast = (g : Geometry) (h : List Entry) → Orderly g h → AreUpToLast h

-- no label is opened twice
abbrev pub ALabelIsOpenedOnce : Type 0
ALabelIsOpenedOnce =
    (g : Geometry) (before between after : List Entry) (label : Label)
    → Orderly g (journal_of_two before (entries.Opened label) between (entries.Opened label) after) → ⊥

-- no label has ended before it is opened
abbrev pub ALabelEndsAfterItsOpening : Type 0
ALabelEndsAfterItsOpening =
    (g : Geometry) (before after : List Entry) (label : Label) → Orderly g (before ++ entries.Opened label ∷ after)
    → label_has_ended before (Some label) ≡ false

-- a label that is opened after a page was freed has a greater version than that page's label had
abbrev pub AFreedPageGetsALaterVersion : Type 0
AFreedPageGetsALaterVersion =
    (g : Geometry) (before between after : List Entry) (freed opened : Label)
    → Orderly g (journal_of_two before (entries.Freed freed) between (entries.Opened opened) after)
    → freed.version < opened.version

-- whether an entry frees the label's page
abbrev pub frees : Label → Entry → Bool
frees label (entries.Freed freed) = same_label freed label
frees label _ = false

-- where a page is opened again, its label was freed in between
abbrev pub APageHasOneLabel : Type 0
APageHasOneLabel =
    (g : Geometry) (before between after : List Entry) (first second : Label)
    → Orderly g (journal_of_two before (entries.Opened first) between (entries.Opened second) after)
    → first.page ≡ second.page → list_any (frees first) between ≡ true

-- a page keeps its label until it is freed
abbrev pub ALabelStaysUntilFreed : Type 0
ALabelStaysUntilFreed =
    (g : Geometry) (h es : List Entry) (label : Label) → Orderly g (h ++ es) → page_label label.page h ≡ Some label
    → list_any (frees label) es ≡ false → page_label label.page (h ++ es) ≡ Some label

-- the label that a page has is of that page, which is one of the geometry's
abbrev pub ALabelIsOfItsPage : Type 0
ALabelIsOfItsPage =
    (g : Geometry) (h : List Entry) (page : ℕ) (label : Label) → Orderly g h → page_label page h ≡ Some label
    → (label.page ≡ page) × (page < g.pages)

-- the number of free pages before and after an entry: an opening takes one, and a freeing gives one back
abbrev pub IsCountAfter : Entry → ℕ → ℕ → Type 0
IsCountAfter (entries.Opened label) before after = after + 1 ≡ before
IsCountAfter (entries.Freed label) before after = after ≡ before + 1
IsCountAfter _ before after = after ≡ before

-- each entry of an orderly journal changes the number of free pages by what its kind says
abbrev pub FreePagesAreCounted : Type 0
FreePagesAreCounted =
    (g : Geometry) (h : List Entry) (e : Entry) → Orderly g (h ++ e ∷ [])
    → IsCountAfter e (free_pages g h) (free_pages g (h ++ e ∷ []))

-- before the first entry all pages are free
abbrev pub AllPagesAreFreeAtFirst : Type 0
AllPagesAreFreeAtFirst = (g : Geometry) → free_pages g [] ≡ g.pages
