-- What a put that answers a place does.
use Rattle.std.specs.Prelude.{◌≡◌, ℕ, List, Option, None, Some}
use Rattle.std.specs.Option.{ForSome}
use Rattle.flash_names.specs.declared.place.Label.{Label}
use Rattle.flash_record.specs.Record.{parts_with}
use Rattle.flash_pages.specs.declared.page_row.Bucket.{Bucket}
use Rattle.flash_pages.specs.declared.pages.Opened.TheVariants.{Page}
use Rattle.flash_pages.specs.States.{is_open}
use Rattle.flash_pages.specs.PageTable.{PageTable, IsAt}
use Rattle.flash_pages.specs.Opening.{next_opening, with_page_opened}
use Rattle.flash_pages.specs.Calls.{adds_live, table_after as pages_after}
use Rattle.flash_blocks.specs.declared.answers.Put.{Put}
use Rattle.flash_blocks.specs.BlockTable.{BlockTable}
use Rattle.flash_blocks.specs.Calls.{length_of, puts, table_after}
use Rattle.flash_blocks.specs.Held.{IsHeld}

-- the pages after this one was opened for the bucket, where one was
abbrev pub pages_opened : Bucket → Option Label → PageTable → PageTable
pages_opened bucket None pages = pages
pages_opened bucket (Some label) pages = with_page_opened pages bucket (Page label)

-- the page is the one that would be opened next for the bucket, and the record is in it
pub record IsOpenedFor (pages : PageTable) (bucket : Bucket) (place label : Label) : Type 0 where
  pub next : next_opening pages bucket ≡ Page label
  pub same : place ≡ label

-- the pages after a put: its place is in an Open page, which was opened where the answer names it, and which has one
-- live record more, of the place's length; nothing else changes
pub record CountsPut (pages : PageTable) (bucket : Bucket) (put : Put) (new : PageTable) : Type 0 where
  pub opened : ForSome put.opened (IsOpenedFor pages bucket put.place.label)
  pub at : IsAt is_open (pages_opened bucket put.opened pages) put.place.label
  pub counted : new ≡ pages_after (adds_live put.place.label put.place.length) (pages_opened bucket put.opened pages)

-- the table after a put of this record: it is held at the place, which has its length, and counted
pub record IsPut (t : BlockTable) (bucket : Bucket) (key : List ℕ) (flags cas : ℕ) (value : List ℕ) (put : Put) : Type 0 where
  pub length : put.place.length ≡ length_of key value
  pub held : IsHeld (table_after (puts bucket key flags cas value) t) put.place
      (parts_with key flags cas put.place.label.version value)
  pub pages : CountsPut t.pages bucket put (table_after (puts bucket key flags cas value) t).pages
