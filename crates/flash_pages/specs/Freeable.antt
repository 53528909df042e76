-- Which page is freed next.
use Rattle.std.specs.Prelude.{ℕ, ◌+◌, ◌≤◌, ◌&&◌, nat_eq, List, [], ◌∷◌, Option, None, Some, if◌then◌else◌}
use Rattle.flash_names.specs.declared.place.Label.{Label}
use Rattle.flash_pages.specs.declared.page_row.PageRow.{PageRow}
use Rattle.flash_pages.specs.States.{is_ended}
use Rattle.flash_pages.specs.PageTable.{PageTable}
use Rattle.flash_pages.specs.Calls.{CanFree}

-- the label of the first of these rows, which are numbered from n, that is Ended and has no pin
abbrev pub first_freeable : ℕ → List PageRow → Option Label
first_freeable n [] = None
first_freeable n (row ∷ rest) =
    if is_ended row.state && nat_eq row.pins 0 then Some (record { page = n; version = row.version })
    else first_freeable (n + 1) rest

-- the ended page of lowest number that has no pin
abbrev pub freeable : PageTable → Option Label
freeable t = first_freeable 0 t.rows

-- the page may be freed, and has the lowest number of those that may be
pub record IsFirstToFree (t : PageTable) (label : Label) : Type 0 where
  pub may : CanFree t label
  pub first : (other : Label) → CanFree t other → label.page ≤ other.page

-- no page may be freed
abbrev pub NoneToFree : PageTable → Type 0
NoneToFree t = (label : Label) → CanFree t label → ⊥
