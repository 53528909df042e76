-- Which label a page has.
use Rattle.std.specs.Prelude.{ℕ, slice_index_or, Option, None, Some, if◌then◌else◌}
use Rattle.flash_names.specs.declared.place.Label.{Label}
use Rattle.flash_pages.specs.declared.page_row.PageRow.{PageRow}
use Rattle.flash_pages.specs.States.{is_free}
use Rattle.flash_pages.specs.PageTable.{PageTable, blank_row}

-- the label that a page has by its row
abbrev pub row_label : ℕ → PageRow → Option Label
row_label page row = if is_free row.state then None else Some (record { page = page; version = row.version })

-- the label that the page has; none where it is Free, or where there is no such page
abbrev pub page_label : PageTable → ℕ → Option Label
page_label t page = row_label page (slice_index_or t.rows page blank_row)
