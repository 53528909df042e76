-- The states of a page, as tests.
use Rattle.std.specs.Prelude.{Bool, true, false}
use Rattle.flash_pages.specs.declared.page_row.State.{State}
use Rattle.flash_pages.specs.declared.page_row.State.TheVariants.{Free, Open, Full, Ended}

-- it has no label
abbrev pub is_free : State → Bool
is_free Free = true
is_free Open = false
is_free Full = false
is_free Ended = false

-- it has a label, and blocks of it are still to be written
abbrev pub is_open : State → Bool
is_open Free = false
is_open Open = true
is_open Full = false
is_open Ended = false

-- it has a label, and each of its blocks has been written
abbrev pub is_full : State → Bool
is_full Free = false
is_full Open = false
is_full Full = true
is_full Ended = false

-- its label has ended, and it isn't free yet
abbrev pub is_ended : State → Bool
is_ended Free = false
is_ended Open = false
is_ended Full = false
is_ended Ended = true

-- Open or Full
abbrev pub is_in_use : State → Bool
is_in_use Free = false
is_in_use Open = true
is_in_use Full = true
is_in_use Ended = false
