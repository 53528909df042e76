-- Which journals keep the rules of pages, reads and writes. These need neither an honest device nor the cache.
use Rattle.std.specs.Prelude.{List, [], IsTrue}
use Rattle.flash_names.specs.declared.geometry.Geometry.{Geometry}
use Rattle.flash_entry.specs.declared.entry.Entry.{Entry}
use Rattle.flash_entry.specs.declared.entry.Entry.TheVariants as entries
use Rattle.flash_machine.specs.EachFrom.{EachFrom}
use Rattle.flash_machine.specs.PageLabels.{is_in_use, is_over}
use Rattle.flash_machine.specs.Rules.{may_be_read, may_read_end, may_write_begin, may_write_end, may_be_opened}

-- the entry keeps the rules 7, 19 to 22 and 26, and rule 6 but for whose the read is; other kinds always do
abbrev pub IsOrderly : Geometry → List Entry → Entry → Type 0
IsOrderly g journal (entries.ReadBegan id place reader) = IsTrue (may_be_read journal id place)
IsOrderly g journal (entries.ReadEnded id outcome) = IsTrue (may_read_end journal id outcome)
IsOrderly g journal (entries.WriteBegan place) = IsTrue (may_write_begin g journal place)
IsOrderly g journal (entries.WriteEnded place outcome) = IsTrue (may_write_end journal place outcome)
IsOrderly g journal (entries.Opened label) = IsTrue (may_be_opened g journal label)
IsOrderly g journal (entries.Ended label cause) = IsTrue (is_in_use journal label)
IsOrderly g journal (entries.Freed label) = IsTrue (is_over journal label)
IsOrderly g journal _ = Unit {0}

-- each of these entries, noted after the journal, keeps those rules
abbrev pub OrderlyFrom : Geometry → List Entry → List Entry → Type 0
OrderlyFrom g journal es = EachFrom (IsOrderly g) journal es

-- each entry of the journal keeps the rules of pages, reads and writes
abbrev pub Orderly : Geometry → List Entry → Type 0
Orderly g journal = OrderlyFrom g [] journal
