-- What an orderly journal says of the reads of flash.
use Rattle.std.specs.Prelude.{◌≡◌, ℕ, List, length, Option, Some}
use Rattle.flash_names.specs.declared.place.Id.{Id}
use Rattle.flash_names.specs.declared.place.Place.{Place}
use Rattle.flash_names.specs.declared.geometry.Geometry.{Geometry}
use Rattle.flash_entry.specs.declared.entry.Entry.{Entry}
use Rattle.flash_entry.specs.declared.entry.Entry.TheVariants as entries
use Rattle.flash_machine.specs.Orderly.{Orderly}
use Rattle.flash_machine.specs.Splits.{journal_of_two}

-- no two reads of a step begin
abbrev pub AStepReadsOnce : Type 0
AStepReadsOnce =
    (g : Geometry) (before between after : List Entry) (id : Id) (first second : Place) (reader other : ℕ)
    → Orderly g
    (journal_of_two before (entries.ReadBegan id first reader) between (entries.ReadBegan id second other) after)
    → ⊥

-- no read ends twice
abbrev pub AReadEndsOnce : Type 0
AReadEndsOnce =
    (g : Geometry) (before between after : List Entry) (id : Id) (first second : Option (List ℕ))
    → Orderly g (journal_of_two before (entries.ReadEnded id first) between (entries.ReadEnded id second) after) → ⊥

-- the bytes of a read are as many as those of its place
abbrev pub AReadHasItsLength : Type 0
AReadHasItsLength =
    (g : Geometry) (before since after : List Entry) (id : Id) (place : Place) (reader : ℕ) (bytes : List ℕ)
    → Orderly g
    (journal_of_two before (entries.ReadBegan id place reader) since (entries.ReadEnded id (Some bytes)) after)
    → length bytes ≡ place.length
