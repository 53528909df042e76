-- What the pages are, and what they are before the first is opened.
use Rattle.std.specs.Prelude.{◌≡◌, ℕ, ◌<◌, Bool, false, IsTrue, List, length, replicate, count_by, slice_index_or, slice_set, Option, None}
use Rattle.flash_names.specs.declared.geometry.Geometry.{Geometry}
use Rattle.flash_names.specs.declared.place.Label.{Label}
use Rattle.flash_pages.specs.declared.page_row.PageRow.{PageRow}
use Rattle.flash_pages.specs.declared.page_row.State.{State}
use Rattle.flash_pages.specs.declared.page_row.State.TheVariants.{Free}
use Rattle.flash_pages.specs.declared.page_row.Bucket.TheVariants.{Default}
use Rattle.flash_pages.specs.States.{is_free}

-- their rows by number, the last version that was given, the label under compaction, and the numbers of the
-- geometry that the answers use
pub record PageTable : Type 0 where
  pub rows : List PageRow
  pub last_version : ℕ
  pub under : Option Label
  pub page_size : ℕ
  pub compact_under : ℕ
  pub drop_under : ℕ
  pub max_frag : ℕ

-- the row of a page that was never opened
abbrev pub blank_row : PageRow
blank_row = record { state = Free; version = 0; bucket = Default; pins = 0; live = 0; live_bytes = 0; spared = false }

-- the pages of a geometry before the first is opened
abbrev pub first_table : Geometry → PageTable
first_table g = record {
  rows = replicate g.pages blank_row;
  last_version = 0;
  under = None;
  page_size = g.page_size;
  compact_under = g.compact_under;
  drop_under = g.drop_under;
  max_frag = g.max_frag;
}

-- the number of Free pages
abbrev pub free_count : PageTable → ℕ
free_count t = count_by (λ row. is_free row.state) t.rows

-- the row of a label's page
abbrev pub row_of : PageTable → Label → PageRow
row_of t label = slice_index_or t.rows label.page blank_row

-- the label's page has its version, in a state that passes
pub record IsAt (passes : State → Bool) (t : PageTable) (label : Label) : Type 0 where
  pub inside : label.page < length t.rows
  pub version : (row_of t label).version ≡ label.version
  pub state : IsTrue (passes (row_of t label).state)

-- the row of the label's page is changed, and nothing else
abbrev pub with_row : PageTable → Label → (PageRow → PageRow) → PageTable
with_row t label change = record t { rows = slice_set t.rows label.page (change (row_of t label)) }
