-- Which journals are of a device that returns what was written.
use Rattle.std.specs.Prelude.{◌≡◌, ℕ, ◌+◌, ◌<◌, false, List, [], ◌∷◌, ◌++◌, Option, None, Some, slice_get}
use Rattle.std.specs.List.{AllByRecursion}
use Rattle.flash_names.specs.declared.place.Id.{Id}
use Rattle.flash_names.specs.declared.place.Place.{Place}
use Rattle.flash_entry.specs.declared.entry.Entry.{Entry}
use Rattle.flash_entry.specs.declared.entry.Entry.TheVariants as entries
use Rattle.flash_machine.specs.EachFrom.{EachFrom}
use Rattle.flash_machine.specs.Places.{has_byte}
use Rattle.flash_machine.specs.Written.{written}

-- the entry begins no write over the byte
abbrev pub BeginsNoWrite : ℕ → ℕ → Entry → Type 0
BeginsNoWrite page offset (entries.WriteBegan place) = has_byte place page offset ≡ false
BeginsNoWrite page offset _ = Unit {0}

-- each byte that was known when the read began, and over which no write has begun since, is what was read
abbrev pub AgreesWith : List Entry → Id → List ℕ → Type 0
AgreesWith journal id bytes =
    (before since : List Entry) (place : Place) (reader i byte : ℕ)
    → journal ≡ before ++ entries.ReadBegan id place reader ∷ since → i < place.length
    → written place.label.page (place.offset + i) before ≡ Some byte
    → AllByRecursion (BeginsNoWrite place.label.page (place.offset + i)) since
    → slice_get bytes i ≡ Some byte

-- of a failed read nothing is asked
abbrev pub IsHonestOutcome : List Entry → Id → Option (List ℕ) → Type 0
IsHonestOutcome journal id None = Unit {0}
IsHonestOutcome journal id (Some bytes) = AgreesWith journal id bytes

-- the entry is honest after this journal
abbrev pub IsHonestEntry : List Entry → Entry → Type 0
IsHonestEntry journal (entries.ReadEnded id outcome) = IsHonestOutcome journal id outcome
IsHonestEntry journal _ = Unit {0}

-- each of these entries is honest after those before it
abbrev pub HonestFrom : List Entry → List Entry → Type 0
HonestFrom journal es = EachFrom IsHonestEntry journal es

-- each good end of a read gives what was written
abbrev pub Honest : List Entry → Type 0
Honest journal = HonestFrom [] journal
