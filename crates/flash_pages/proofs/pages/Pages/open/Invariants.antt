use Rattle.std.proofs.Common.{◌≡◌, replicate}
use Rattle.flash_pages.specs.PageTable.{blank_row}
use Rattle.flash_pages.proofs.pages.Pages.open.Given as goal

-- so many rows are there
abbrev pub invariant-rows : goal.invariant-rows
invariant-rows l = l.rows.items ≡ replicate l.counter blank_row
