-- When each call may be made, and what is after it.
use Rattle.std.specs.Prelude.{◌≡◌, ℕ, ◌+◌, ◌-◌, ◌^◌, ◌<◌, ◌≤◌, Bool, true, false, not, ◌&&◌, nat_eq, length, None, Some, if◌then◌else◌}
use Rattle.flash_names.specs.declared.place.Label.{Label}
use Rattle.flash_pages.specs.declared.page_row.Bucket.{Bucket}
use Rattle.flash_pages.specs.declared.page_row.State.TheVariants.{Free, Full, Ended}
use Rattle.flash_pages.specs.States.{is_open, is_full, is_ended, is_in_use}
use Rattle.flash_pages.specs.PageTable.{PageTable, row_of, IsAt, with_row}
use Rattle.flash_pages.specs.Opening.{next_opening, with_page_opened}

-- the calls that change the pages, with what they are given
pub data Call : Type 0 where
  opens : Bucket → Call
  pins : Label → Call
  unpins : Label → Call
  adds_live : Label → ℕ → Call
  takes_live : Label → ℕ → Call
  fills : Label → Call
  ends : Label → Call
  frees : Label → Call
  compacts : Label → Call
  compacts_none : Call
  spares : Label → Call

-- whether the label has ended: the page has another version, or is Ended or Free
abbrev pub has_ended : PageTable → Label → Bool
has_ended t label = not (nat_eq (row_of t label).version label.version && is_in_use (row_of t label).state)

-- there is such a page, and one pin more can be counted
pub record CanPin (t : PageTable) (label : Label) : Type 0 where
  pub inside : label.page < length t.rows
  pub room : (row_of t label).pins < 2 ^ 64 - 1

-- the label's page has a pin
pub record HasPin (t : PageTable) (label : Label) : Type 0 where
  pub inside : label.page < length t.rows
  pub version : (row_of t label).version ≡ label.version
  pub pinned : 0 < (row_of t label).pins

-- one live record more of so many bytes can be counted
pub record CanAdd (t : PageTable) (label : Label) (bytes : ℕ) : Type 0 where
  pub at : IsAt is_in_use t label
  pub room : (row_of t label).live < 2 ^ 32 - 1
  pub within : (row_of t label).live_bytes + bytes ≤ t.page_size

-- the label's page has a live record, and so many live bytes
pub record HasLive (t : PageTable) (label : Label) (bytes : ℕ) : Type 0 where
  pub inside : label.page < length t.rows
  pub version : (row_of t label).version ≡ label.version
  pub some : 0 < (row_of t label).live
  pub there : bytes ≤ (row_of t label).live_bytes

-- the label's page has ended and has no pin
pub record CanFree (t : PageTable) (label : Label) : Type 0 where
  pub at : IsAt is_ended t label
  pub unpinned : (row_of t label).pins ≡ 0

-- the label's page is Full, and none is under compaction
pub record CanCompact (t : PageTable) (label : Label) : Type 0 where
  pub at : IsAt is_full t label
  pub none : t.under ≡ None

-- the call may be made
abbrev pub Allowed : PageTable → Call → Type 0
Allowed t (opens bucket) = Unit {0}
Allowed t (pins label) = CanPin t label
Allowed t (unpins label) = HasPin t label
Allowed t (adds_live label bytes) = CanAdd t label bytes
Allowed t (takes_live label bytes) = HasLive t label bytes
Allowed t (fills label) = IsAt is_open t label
Allowed t (ends label) = IsAt is_in_use t label
Allowed t (frees label) = CanFree t label
Allowed t (compacts label) = CanCompact t label
Allowed t compacts_none = Unit {0}
Allowed t (spares label) = IsAt is_in_use t label

-- the pages after the call
abbrev pub table_after : Call → PageTable → PageTable
table_after (opens bucket) t = with_page_opened t bucket (next_opening t bucket)
table_after (pins label) t =
    if has_ended t label then t else with_row t label (λ row. record row { pins = row.pins + 1 })
table_after (unpins label) t = with_row t label (λ row. record row { pins = row.pins - 1 })
table_after (adds_live label bytes) t =
    with_row t label (λ row. record row { live = row.live + 1; live_bytes = row.live_bytes + bytes })
table_after (takes_live label bytes) t =
    with_row t label (λ row. record row { live = row.live - 1; live_bytes = row.live_bytes - bytes })
table_after (fills label) t = with_row t label (λ row. record row { state = Full })
table_after (ends label) t = with_row t label (λ row. record row { state = Ended })
table_after (frees label) t =
    with_row t label (λ row. record row { state = Free; live = 0; live_bytes = 0; spared = false })
table_after (compacts label) t = record t { under = Some label }
table_after compacts_none t = record t { under = None }
table_after (spares label) t = with_row t label (λ row. record row { spared = true })
