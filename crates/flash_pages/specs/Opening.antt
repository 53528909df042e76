-- Which page is opened next.
use Rattle.std.specs.Prelude.{ℕ, ◌+◌, ◌^◌, ◌<◌, Bool, IsTrue, false, ◌||◌, nat_lt, nat_le, Option, None, Some, if◌then◌else◌, slice_set, slice_index_or, length, List}
use Rattle.std.specs.List.{position_from}
use Rattle.flash_pages.specs.declared.page_row.PageRow.{PageRow}
use Rattle.flash_pages.specs.declared.page_row.Bucket.{Bucket}
use Rattle.flash_pages.specs.declared.page_row.Bucket.TheVariants.{Default, Compact}
use Rattle.flash_pages.specs.declared.page_row.State.TheVariants.{Open}
use Rattle.flash_pages.specs.declared.pages.Opened.{Opened}
use Rattle.flash_pages.specs.declared.pages.Opened.TheVariants.{Page, NoPage}
use Rattle.flash_pages.specs.States.{is_free}
use Rattle.flash_pages.specs.PageTable.{PageTable, free_count, blank_row}

-- how many pages have to be free: the last free one is for compaction alone
abbrev pub pages_wanted : Bucket → ℕ
pages_wanted Default = 2
pages_wanted Compact = 1

-- fewer pages are free, or the last version was given
abbrev pub is_refused : PageTable → Bucket → Bool
is_refused t bucket = nat_lt (free_count t) (pages_wanted bucket) || nat_le (2 ^ 63) t.last_version

-- this page, with the version above the last
abbrev pub opening_at : PageTable → Option ℕ → Opened
opening_at t None = NoPage
opening_at t (Some number) = Page (record { page = number; version = t.last_version + 1 })

-- the free page of lowest number, unless it is refused
abbrev pub next_opening : PageTable → Bucket → Opened
next_opening t bucket =
    if is_refused t bucket then NoPage else opening_at t (position_from (λ row. is_free row.state) 0 t.rows)

-- the row of a page that has just been opened
abbrev pub open_row : Bucket → ℕ → PageRow
open_row bucket version =
    record { state = Open; version = version; bucket = bucket; pins = 0; live = 0; live_bytes = 0; spared = false }

-- after this was opened
abbrev pub with_page_opened : PageTable → Bucket → Opened → PageTable
with_page_opened t bucket NoPage = t
with_page_opened t bucket (Page label) =
    record t { rows = slice_set t.rows label.page (open_row bucket label.version); last_version = label.version }

-- the page of this number is Free
abbrev pub IsFreeRow : List PageRow → ℕ → Type 0
IsFreeRow rows page = (page < length rows) × IsTrue (is_free (slice_index_or rows page blank_row).state)

-- a page that is opened was Free
abbrev pub WasFree : PageTable → Opened → Type 0
WasFree t NoPage = Unit {0}
WasFree t (Page label) = IsFreeRow t.rows label.page
