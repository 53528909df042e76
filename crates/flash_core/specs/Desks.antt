-- The desk of a store, by its index and its blocks.
use Rattle.std.specs.Prelude.{◌≡◌, ◌<◌, ℕ, false, List, length, None, Some}
use Rattle.std.specs.FinMap.{get}
use Rattle.flash_names.specs.declared.place.Place.{Place}
use Rattle.flash_pages.specs.PageTable.{PageTable}
use Rattle.flash_pages.specs.Calls.{HasLive, has_ended}
use Rattle.flash_blocks.specs.BlockTable.{BlockTable}
use Rattle.flash_index.specs.IndexState.{IndexState}
use Rattle.flash_calls.specs.Store.{Desk}

-- the desk
abbrev pub desk_of : IndexState → BlockTable → Desk
desk_of s t = record { lists = s.lists; places = s.places; blocks = t }

-- the record at a place may be given up: there is such a page, and where its label hasn't ended it has a live record,
-- and so many live bytes
pub record MayBeGiven (t : PageTable) (place : Place) : Type 0 where
  pub inside : place.label.page < length t.rows
  pub live : has_ended t place.label ≡ false → HasLive t place.label place.length

-- the record of each place may be given up, and a key without an item has no place
pub record AreFit (s : IndexState) (t : BlockTable) : Type 0 where
  pub given : (key : List ℕ) (place : Place) → get s.places key ≡ Some place → MayBeGiven t.pages place
  pub bare : (key : List ℕ) → get s.items key ≡ None → get s.places key ≡ None
