-- That the pages count the live records.
use Rattle.std.specs.Prelude.{◌≡◌, ℕ, false, List, if◌then◌else◌}
use Rattle.std.specs.FinMap as finite
use Rattle.flash_names.specs.declared.place.Label.{Label}
use Rattle.flash_pages.specs.PageTable.{PageTable, row_of}
use Rattle.flash_pages.specs.Calls.{has_ended}
use Rattle.flash_machine.specs.Item.{Item}
use Rattle.flash_machine.specs.Cache.{Items}
use Rattle.flash_machine.specs.Load.{total}
use Rattle.flash_machine.specs.Rules.{is_labelled}
use Rattle.flash_machine.specs.Followed.{labelled_count}
use Rattle.flash_calls.specs.Placed.{record_size}

-- the bytes of the item's record where it has the label
abbrev pub bytes_if_labelled : Label → List ℕ × Item → ℕ
bytes_if_labelled label entry = if is_labelled label entry then record_size entry.0 entry.1 else 0

-- how many bytes the records of the items have that have the label
abbrev pub live_bytes : Label → Items → ℕ
live_bytes label items = total (bytes_if_labelled label) (finite.entries items)

-- the label's page counts its live records and their bytes
pub record IsCounted (items : Items) (t : PageTable) (label : Label) : Type 0 where
  pub records : (row_of t label).live ≡ labelled_count label items
  pub bytes : (row_of t label).live_bytes ≡ live_bytes label items

-- the page of each label that hasn't ended does
abbrev pub AreCounted : Items → PageTable → Type 0
AreCounted items t = (label : Label) → has_ended t label ≡ false → IsCounted items t label
