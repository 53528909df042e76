-- That the write buffers hold the records of the values that were moved.
use Rattle.std.specs.Prelude.{◌≡◌, ℕ, false, List, Some}
use Rattle.std.specs.List.{AllByRecursion}
use Rattle.std.specs.FinMap as finite
use Rattle.flash_names.specs.declared.place.Place.{Place}
use Rattle.flash_record.specs.Record.{Parts, parts_with}
use Rattle.flash_entry.specs.declared.entry.Entry.{Entry}
use Rattle.flash_entry.specs.declared.entry.Entry.TheVariants as entries
use Rattle.flash_pages.specs.Calls.{has_ended}
use Rattle.flash_blocks.specs.BlockTable.{BlockTable}
use Rattle.flash_blocks.specs.Held.{IsHeld}
use Rattle.flash_machine.specs.Item.{Item}
use Rattle.flash_machine.specs.Cache.{Items}
use Rattle.flash_index.specs.Places.{Places}

-- the parts of the record of an item under a key, at a place
abbrev pub parts_of : List ℕ → Item → Place → Parts
parts_of key item place = parts_with key item.flags item.cas place.label.version item.value

-- the buffers hold that record there
abbrev pub HoldsRecord : BlockTable → List ℕ → Item → Place → Type 0
HoldsRecord t key item place = IsHeld t place (parts_of key item place)

-- the buffers hold each record that they held
abbrev pub KeepsRecords : BlockTable → BlockTable → Type 0
KeepsRecords t new = (key : List ℕ) (item : Item) (place : Place) → HoldsRecord t key item place → HoldsRecord new key item place

-- the buffers hold the record of each item whose place has a label that hasn't ended
abbrev pub AreHeld : Items → Places → BlockTable → Type 0
AreHeld items places t =
    (key : List ℕ) (item : Item) (place : Place) → finite.get items key ≡ Some item → finite.get places key ≡ Some place
    → has_ended t.pages place.label ≡ false → HoldsRecord t key item place

-- the entry begins and ends no write
abbrev pub WritesNone : Entry → Type 0
WritesNone (entries.WriteBegan place) = ⊥
WritesNone (entries.WriteEnded place outcome) = ⊥
WritesNone _ = Unit {0}

-- no block was written
abbrev pub IsUnwritten : List Entry → Type 0
IsUnwritten h = AllByRecursion WritesNone h
