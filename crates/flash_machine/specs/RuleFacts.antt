-- The rules of pages, reads and writes in facts, where `Rules.antt` has them as tests.
use Rattle.std.specs.Prelude.{◌≡◌, ◌⊎◌, ◌↔◌, ℕ, ◌+◌, ◌%◌, ◌<◌, ◌≤◌, true, false, List, length, Option, None, Some, IsTrue}
use Rattle.flash_names.specs.declared.place.Id.{Id}
use Rattle.flash_names.specs.declared.place.Label.{Label}
use Rattle.flash_names.specs.declared.place.Place.{Place}
use Rattle.flash_names.specs.declared.geometry.Geometry.{Geometry}
use Rattle.flash_entry.specs.declared.entry.Entry.{Entry}
use Rattle.flash_machine.specs.Live.{label_has_ended}
use Rattle.flash_machine.specs.PageLabels.{page_label, last_version, is_in_use, is_over}
use Rattle.flash_machine.specs.Storing.{last_number}
use Rattle.flash_machine.specs.Writes.{open_write}
use Rattle.flash_machine.specs.DeviceReads.{read_of}
use Rattle.flash_machine.specs.Rules.{may_be_read, may_read_end, may_write_begin, may_write_end, may_be_opened}

-- a page has the label, and it hasn't ended
pub record IsInUse (h : List Entry) (label : Label) : Type 0 where
  pub has : page_label label.page h ≡ Some label
  pub unended : label_has_ended h (Some label) ≡ false

-- a page has the label, and it has ended
pub record IsOver (h : List Entry) (label : Label) : Type 0 where
  pub has : page_label label.page h ≡ Some label
  pub ended : label_has_ended h (Some label) ≡ true

-- the version is the next one, at most 2^63, and the page is free
pub record IsNextLabel (g : Geometry) (h : List Entry) (label : Label) : Type 0 where
  pub version : label.version ≡ last_version h + 1
  pub within : label.version ≤ last_number
  pub page : label.page < g.pages
  pub free : page_label label.page h ≡ None

-- the label is in use, the place is one block, and no write of another place is open
pub record MayWrite (g : Geometry) (h : List Entry) (place : Place) : Type 0 where
  pub label : IsInUse h place.label
  pub long : place.length ≡ g.buffer_size
  pub block : place.offset % g.buffer_size ≡ 0
  pub inside : place.offset + place.length ≤ g.page_size
  pub alone : (open_write h ≡ None) ⊎ (open_write h ≡ Some place)

-- the bytes, where there are some, are so many
abbrev pub HasLength : ℕ → Option (List ℕ) → Type 0
HasLength n None = Unit {0}
HasLength n (Some bytes) = length bytes ≡ n

-- the open write is of that place, and the bytes have its length
pub record MayEndWrite (h : List Entry) (place : Place) (outcome : Option (List ℕ)) : Type 0 where
  pub write : open_write h ≡ Some place
  pub long : HasLength place.length outcome

-- the label of the place is in use, and the step has no read yet
pub record MayRead (h : List Entry) (id : Id) (place : Place) : Type 0 where
  pub label : IsInUse h place.label
  pub first : read_of id h ≡ None

-- the step has a read that hasn't ended, and the bytes have the length of its place
abbrev pub MayEndRead : List Entry → Id → Option (List ℕ) → Type 0
MayEndRead h id outcome =
    (place : Place) × (read_of id h ≡ Some (record { place = place; outcome = None })) × HasLength place.length outcome

-- rule 22: exactly a label that is in use ends
abbrev pub InUseInFacts : Type 0
InUseInFacts = (h : List Entry) (label : Label) → IsTrue (is_in_use h label) ↔ IsInUse h label

-- rule 26: exactly a label that is over is freed
abbrev pub OverInFacts : Type 0
OverInFacts = (h : List Entry) (label : Label) → IsTrue (is_over h label) ↔ IsOver h label

-- rule 21: exactly the next label of a free page is opened
abbrev pub OpenedInFacts : Type 0
OpenedInFacts =
    (g : Geometry) (h : List Entry) (label : Label) → IsTrue (may_be_opened g h label) ↔ IsNextLabel g h label

-- rule 19 in facts
abbrev pub WriteBeganInFacts : Type 0
WriteBeganInFacts =
    (g : Geometry) (h : List Entry) (place : Place) → IsTrue (may_write_begin g h place) ↔ MayWrite g h place

-- rule 20 in facts
abbrev pub WriteEndedInFacts : Type 0
WriteEndedInFacts =
    (h : List Entry) (place : Place) (outcome : Option (List ℕ))
    → IsTrue (may_write_end h place outcome) ↔ MayEndWrite h place outcome

-- rule 6 in facts, but for whose the read is
abbrev pub ReadBeganInFacts : Type 0
ReadBeganInFacts = (h : List Entry) (id : Id) (place : Place) → IsTrue (may_be_read h id place) ↔ MayRead h id place

-- rule 7 in facts
abbrev pub ReadEndedInFacts : Type 0
ReadEndedInFacts =
    (h : List Entry) (id : Id) (outcome : Option (List ℕ))
    → IsTrue (may_read_end h id outcome) ↔ MayEndRead h id outcome
