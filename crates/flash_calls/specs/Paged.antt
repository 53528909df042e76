-- That the pages are as the journal says.
use Rattle.std.specs.Prelude.{◌≡◌, ℕ, List, length, slice_index_or}
use Rattle.flash_names.specs.declared.geometry.Geometry.{Geometry}
use Rattle.flash_entry.specs.declared.entry.Entry.{Entry}
use Rattle.flash_pages.specs.declared.page_row.PageRow.{PageRow}
use Rattle.flash_pages.specs.Labels.{row_label}
use Rattle.flash_pages.specs.States.{is_ended}
use Rattle.flash_pages.specs.PageTable.{PageTable, blank_row}
use Rattle.flash_machine.specs.Live.{label_has_ended}
use Rattle.flash_machine.specs.PageLabels.{page_label, last_version}

-- the page has the label that its row says, which has ended exactly where the row says so
pub record IsRowOf (h : List Entry) (page : ℕ) (row : PageRow) : Type 0 where
  pub label : row_label page row ≡ page_label page h
  pub ended : is_ended row.state ≡ label_has_ended h (page_label page h)

-- there is a row for each page of the geometry, each is as the journal says, and so is the last version
pub record ArePaged (g : Geometry) (h : List Entry) (t : PageTable) : Type 0 where
  pub rows : length t.rows ≡ g.pages
  pub last : t.last_version ≡ last_version h
  pub each : (page : ℕ) → IsRowOf h page (slice_index_or t.rows page blank_row)
