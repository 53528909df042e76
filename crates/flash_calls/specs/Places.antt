-- Whether the record at a place has ended, and how it is given back.
use Rattle.std.specs.Prelude.{Option, None, Some, Bool, false, if◌then◌else◌}
use Rattle.flash_names.specs.declared.place.Place.{Place}
use Rattle.flash_pages.specs.PageTable.{PageTable}
use Rattle.flash_pages.specs.Calls.{has_ended}
use Rattle.flash_blocks.specs.BlockTable.{BlockTable}
use Rattle.flash_blocks.specs.Calls.{takes_live, table_after}

-- whether the label of a place has ended, where there is one
abbrev pub place_has_ended : PageTable → Option Place → Bool
place_has_ended t None = false
place_has_ended t (Some place) = has_ended t place.label

-- the blocks after the record at a place, where there is one, was given up: a label that hasn't ended has one live
-- record fewer
abbrev pub given_back : Option Place → BlockTable → BlockTable
given_back None t = t
given_back (Some place) t = if has_ended t.pages place.label then t else table_after (takes_live place) t
