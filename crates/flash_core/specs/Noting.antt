-- What a sweep notes.
use Rattle.std.specs.Prelude.{ℕ, List, [], ◌∷◌, Option, None, Some}
use Rattle.flash_entry.specs.declared.entry.DropCause.{DropCause}
use Rattle.flash_entry.specs.declared.entry.Entry.{Entry}
use Rattle.flash_entry.specs.declared.entry.Entry.TheVariants as entries

-- the entry of a key's item that is dropped for a cause, where there is one
abbrev pub entries_of_sweep : List ℕ → Option DropCause → List Entry
entries_of_sweep key None = []
entries_of_sweep key (Some cause) = entries.Dropped key cause ∷ []
