-- Counters go on where a journal goes on.
use Rattle.std.specs.Prelude.{◌≡◌, List, ◌++◌}
use Rattle.flash_entry.specs.declared.entry.Entry.{Entry}
use Rattle.flash_counters.specs.Counters.{counters_of, sums}

-- the counters of some entries and more are the sums
abbrev pub CountersGoOn : Type 0
CountersGoOn = (h es : List Entry) → counters_of (h ++ es) ≡ sums (counters_of h) (counters_of es)
