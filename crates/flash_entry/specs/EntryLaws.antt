-- What is read of an entry's line, and what line an entry is read of.
use Rattle.std.specs.Prelude.{◌≡◌, List, ◌++◌, ℕ, Ok}
use Rattle.flash_entry.specs.declared.entry.Entry.{Entry}
use Rattle.flash_entry.specs.Text.{line_end}
use Rattle.flash_entry.specs.EntryText.{entry_line}
use Rattle.flash_entry.specs.EntryReading.{reading}
use Rattle.flash_entry.specs.IsEntry.{IsEntry}
use Rattle.flash_entry.specs.OneLine.{IsOneLine}

-- the line of an entry, without its line feed, is read as that entry
abbrev pub EachEntryIsReadBack : Type 0
EachEntryIsReadBack =
    (entry : Entry) (line : List ℕ) → IsEntry entry → entry_line entry ≡ line ++ line_end → reading line ≡ Ok entry

-- a line that is read as an entry is, with a line feed, the line of that entry
abbrev pub WhatIsReadIsItsLine : Type 0
WhatIsReadIsItsLine = (entry : Entry) (line : List ℕ) → reading line ≡ Ok entry → entry_line entry ≡ line ++ line_end

-- what is read of a line is an entry of the type: its numbers fit their fields
abbrev pub WhatIsReadIsAnEntry : Type 0
WhatIsReadIsAnEntry = (entry : Entry) (line : List ℕ) → reading line ≡ Ok entry → IsEntry entry

-- the line of an entry has a line feed at its end, and none before it
abbrev pub EachEntryIsOneLine : Type 0
EachEntryIsOneLine =
    (entry : Entry) (line : List ℕ) → IsEntry entry → entry_line entry ≡ line ++ line_end → IsOneLine line
