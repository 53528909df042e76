-- What a server writes.
use Rattle.std.specs.Prelude.{◌≡◌, ℕ, List, [], ◌∷◌, ◌++◌, length, Option, None, Some, codes, decimal}
use Rattle.std.specs.List.{flat_map}
use Rattle.flash_names.specs.declared.geometry.Geometry.{Geometry}
use Rattle.flash_entry.specs.declared.entry.Entry.{Entry}
use Rattle.flash_entry.specs.EntryText.{entry_line}
use Rattle.flash_entry.specs.GeometryLine.{geometry_line}
use Rattle.flash_machine.specs.Legal.{Legal}
use Rattle.flash_counters.specs.declared.counters.Counters.{Counters}
use Rattle.flash_counters.specs.Counters.{counters_of}

-- the line of the port, written before the first connection is accepted
abbrev pub listening_text : ℕ → List ℕ
listening_text port = codes "listening " ++ decimal port ++ 10 ∷ []

-- the line of the counters
abbrev pub counters_text : Counters → List ℕ
counters_text c =
    codes "moved " ++ decimal c.moved ++ codes " read " ++ decimal c.read ++ codes " hits " ++ decimal c.hits
    ++ codes " misses " ++ decimal c.misses ++ 10 ∷ []

-- the journal after this first line: how many entries it has, the line, and the lines of the entries
abbrev pub journal_lines : List ℕ → List Entry → List ℕ
journal_lines first_line journal =
    codes "journal " ++ decimal (length journal) ++ 10 ∷ first_line ++ flat_map entry_line journal

-- the journal of a store of this geometry
abbrev pub journal_text : Geometry → List Entry → List ℕ
journal_text g journal = journal_lines (geometry_line g) journal

-- the journal, where it is kept
abbrev pub journal_if : Geometry → Option (List Entry) → List ℕ
journal_if g None = []
journal_if g (Some journal) = journal_text g journal

-- what is written at the end of a server whose journal tells nothing: some counters. Where it tells its entries, they
-- are a run of the one-thread cache, the counters are theirs, and the journal follows
abbrev pub IsClosing : Geometry → Option (List Entry) → List ℕ → Type 0
IsClosing g None text = (c : Counters) × (text ≡ counters_text c)
IsClosing g (Some journal) text =
    Legal g journal × (text ≡ counters_text (counters_of journal) ++ journal_text g journal)
