-- What a journal says of the bytes that were written.
use Rattle.std.specs.Prelude.{◌≡◌, ℕ, true, List, [], ◌∷◌, ◌++◌, None, Some}
use Rattle.std.specs.List.{AllByRecursion}
use Rattle.flash_names.specs.declared.place.Id.{Id}
use Rattle.flash_names.specs.declared.place.Place.{Place}
use Rattle.flash_names.specs.declared.geometry.Geometry.{Geometry}
use Rattle.flash_entry.specs.declared.entry.Entry.{Entry}
use Rattle.flash_entry.specs.declared.entry.Entry.TheVariants as entries
use Rattle.flash_machine.specs.Places.{has_byte}
use Rattle.flash_machine.specs.Writes.{open_write}
use Rattle.flash_machine.specs.Written.{written, IsWritten}
use Rattle.flash_machine.specs.Honest.{Honest}
use Rattle.flash_machine.specs.HonestLaws.{BeginsNoWriteOver, read_journal}
use Rattle.flash_machine.specs.Orderly.{Orderly}

-- while a write is open, no byte of its place is known
abbrev pub AByteBeingWrittenIsUnknown : Type 0
AByteBeingWrittenIsUnknown =
    (h : List Entry) (place : Place) (page offset : ℕ) → open_write h ≡ Some place
    → has_byte place page offset ≡ true → written page offset h ≡ None

-- after a good end of a write its bytes are known to be at its place
abbrev pub AGoodWriteIsKnown : Type 0
AGoodWriteIsKnown =
    (g : Geometry) (h : List Entry) (place : Place) (bytes : List ℕ)
    → Orderly g (h ++ entries.WriteEnded place (Some bytes) ∷ [])
    → IsWritten (h ++ entries.WriteEnded place (Some bytes) ∷ []) place bytes

-- what is known to be at a place stays known until a write over it begins
abbrev pub WhatIsKnownStays : Type 0
WhatIsKnownStays =
    (g : Geometry) (h es : List Entry) (place : Place) (bytes : List ℕ) → Orderly g (h ++ es)
    → IsWritten h place bytes → AllByRecursion (BeginsNoWriteOver place) es → IsWritten (h ++ es) place bytes

-- a read of the place of a good write gives its bytes, where no write over the place began between their ends
abbrev pub AReadGivesTheLastWrite : Type 0
AReadGivesTheLastWrite =
    (g : Geometry) (h between since after : List Entry) (id : Id) (place : Place) (reader : ℕ) (bytes read : List ℕ)
    → Orderly g (read_journal (h ++ entries.WriteEnded place (Some bytes) ∷ between) id place reader since read after)
    → Honest (read_journal (h ++ entries.WriteEnded place (Some bytes) ∷ between) id place reader since read after)
    → AllByRecursion (BeginsNoWriteOver place) between → AllByRecursion (BeginsNoWriteOver place) since
    → read ≡ bytes
