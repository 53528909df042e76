-- What a journal of a device that returns what was written says of its reads.
use Rattle.std.specs.Prelude.{◌≡◌, ◌↔◌, ℕ, Bool, true, false, List, [], ◌∷◌, ◌++◌, Some}
use Rattle.std.specs.List.{AllByRecursion}
use Rattle.flash_names.specs.declared.place.Id.{Id}
use Rattle.flash_names.specs.declared.place.Place.{Place}
use Rattle.flash_names.specs.declared.geometry.Geometry.{Geometry}
use Rattle.flash_entry.specs.declared.entry.Entry.{Entry}
use Rattle.flash_entry.specs.declared.entry.Entry.TheVariants as entries
use Rattle.flash_machine.specs.Places.{overlaps}
use Rattle.flash_machine.specs.Written.{IsWritten}
use Rattle.flash_machine.specs.Honest.{AgreesWith, IsHonestEntry, HonestFrom, Honest}
use Rattle.flash_machine.specs.Orderly.{Orderly}
use Rattle.flash_machine.specs.Splits.{journal_of_two}

-- where the journal is split at a good end of a read, its bytes agree with what was known when the read began
abbrev pub EachReadAgrees : List Entry → Type 0
EachReadAgrees journal =
    (before after : List Entry) (id : Id) (bytes : List ℕ)
    → journal ≡ before ++ entries.ReadEnded id (Some bytes) ∷ after → AgreesWith before id bytes

-- honest, entry by entry, is the same as honest at each split
abbrev pub HonestBySplits : Type 0
HonestBySplits = (h : List Entry) → Honest h ↔ EachReadAgrees h

-- an honest journal goes on honestly by an entry that is honest after it
abbrev pub HonestGoesOn : Type 0
HonestGoesOn = (h : List Entry) (e : Entry) → Honest h → IsHonestEntry h e → Honest (h ++ e ∷ [])

-- whether an entry ends a read with bytes
abbrev pub ends_read_well : Entry → Bool
ends_read_well (entries.ReadEnded id (Some bytes)) = true
ends_read_well _ = false

-- an entry that doesn't end a read with bytes is honest after any journal
abbrev pub OnlyReadBytesAreAsked : Type 0
OnlyReadBytesAreAsked = (h : List Entry) (e : Entry) → ends_read_well e ≡ false → IsHonestEntry h e

-- each front of an honest journal is honest: nothing that comes after a journal that isn't honest makes it honest
abbrev pub EachFrontIsHonest : Type 0
EachFrontIsHonest = (h es : List Entry) → Honest (h ++ es) → Honest h × HonestFrom h es

-- the entry begins no write over some byte of the place
abbrev pub BeginsNoWriteOver : Place → Entry → Type 0
BeginsNoWriteOver place (entries.WriteBegan other) = overlaps other place ≡ false
BeginsNoWriteOver place _ = Unit {0}

-- the journal with a read that ends well
abbrev pub read_journal : List Entry → Id → Place → ℕ → List Entry → List ℕ → List Entry → List Entry
read_journal before id place reader since bytes after =
    journal_of_two before (entries.ReadBegan id place reader) since (entries.ReadEnded id (Some bytes)) after

-- a read gives the bytes that were known to be at its place when it began, where no write over the place began since
abbrev pub AReadGivesWhatWasWritten : Type 0
AReadGivesWhatWasWritten =
    (g : Geometry) (before since after : List Entry) (id : Id) (place : Place) (reader : ℕ) (was bytes : List ℕ)
    → Orderly g (read_journal before id place reader since bytes after)
    → Honest (read_journal before id place reader since bytes after)
    → IsWritten before place was → AllByRecursion (BeginsNoWriteOver place) since → bytes ≡ was
