use Rattle.std.proofs.Common.{◌≡◌, ◌++◌, drop}
use Rattle.std.specs.List.{flat_map}
use Rattle.flash_entry.specs.EntryText.{entry_line}
use Rattle.flash_serve.proofs.output.push_entries.Given as goal

-- what is pushed so far, with what is left behind it
abbrev pub invariant-entries : goal.invariant-entries
invariant-entries l = l.out.items ++ flat_map entry_line (drop l.entry-index l.journal) ≡ l.fn.out.items ++ flat_map entry_line l.journal
