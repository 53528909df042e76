-- That each moved value has its place.
use Rattle.std.specs.Prelude.{◌≡◌, ℕ, ◌+◌, List, length, Option, None, Some, IsTrue, ◌||◌}
use Rattle.std.specs.FinMap as finite
use Rattle.flash_names.specs.declared.place.Label.{Label}
use Rattle.flash_names.specs.declared.place.Place.{Place}
use Rattle.flash_entry.specs.declared.entry.Entry.{Entry}
use Rattle.flash_machine.specs.Item.{Item}
use Rattle.flash_machine.specs.Cache.{Items}
use Rattle.flash_machine.specs.Live.{label_has_ended}
use Rattle.flash_machine.specs.PageLabels.{page_label, is_label}
use Rattle.flash_index.specs.Places.{Places}

-- how many bytes the record of an item under a key has
abbrev pub record_size : List ℕ → Item → ℕ
record_size key item = 32 + length key + length item.value

-- the item's label is that of the place, whose length is that of its record
pub record IsAtPlace (key : List ℕ) (item : Item) (place : Place) : Type 0 where
  pub label : item.label ≡ Some place.label
  pub length : place.length ≡ record_size key item

-- the key's item has a label exactly where the key has a place, which is the item's
abbrev pub IsPlaced : List ℕ → Option Item → Option Place → Type 0
IsPlaced key None None = Unit {0}
IsPlaced key None (Some place) = ⊥
IsPlaced key (Some item) None = item.label ≡ None
IsPlaced key (Some item) (Some place) = IsAtPlace key item place

-- each key's is
abbrev pub ArePlaced : Items → Places → Type 0
ArePlaced items places = (key : List ℕ) → IsPlaced key (finite.get items key) (finite.get places key)

-- the label was opened: its page has it still, or it has ended
abbrev pub WasOpened : List Entry → Label → Type 0
WasOpened h label = IsTrue (is_label label (page_label label.page h) || label_has_ended h (Some label))

-- the label of each place was
abbrev pub AreOpened : List Entry → Places → Type 0
AreOpened h places = (key : List ℕ) (place : Place) → finite.get places key ≡ Some place → WasOpened h place.label
