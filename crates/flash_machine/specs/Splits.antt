-- Journals that are split at their entries.
use Rattle.std.specs.Prelude.{List, ◌∷◌, ◌++◌}
use Rattle.flash_entry.specs.declared.entry.Entry.{Entry}

-- a journal split at two entries: what was before the first, what came between them, and what came after the second
abbrev pub journal_of_two : List Entry → Entry → List Entry → Entry → List Entry → List Entry
journal_of_two before first between second after = (before ++ first ∷ between) ++ second ∷ after
