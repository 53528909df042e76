-- Which page is evicted or compacted next.
use Rattle.std.specs.Prelude.{◌≡◌, ℕ, ◌*◌, ◌<◌, ◌≤◌, Bool, false, not, ◌&&◌, nat_le, Option, None, Some, if◌then◌else◌}
use Rattle.std.specs.Option.{option_map}
use Rattle.flash_names.specs.declared.place.Label.{Label}
use Rattle.flash_names.specs.Labels.{same_label}
use Rattle.flash_pages.specs.declared.page_row.PageRow.{PageRow}
use Rattle.flash_pages.specs.declared.victims.Candidate.{Candidate}
use Rattle.flash_pages.specs.States.{is_full}
use Rattle.flash_pages.specs.PageTable.{PageTable, free_count, row_of, IsAt}
use Rattle.flash_pages.specs.Least.{least_from}

-- whether this label is the one under compaction
abbrev pub is_under : Option Label → Label → Bool
is_under None label = false
is_under (Some other) label = same_label other label

-- a Full page that isn't under compaction may be evicted: its weight is its version
abbrev pub to_evict : Option Label → ℕ → PageRow → Option Candidate
to_evict under number row =
    let label : Label = record { page = number; version = row.version } in
    if is_full row.state && not (is_under under label) then Some (record { label = label; weight = row.version })
    else None

-- a Full page that isn't spared may be compacted where 100 times its live bytes are at most `most`: its weight
-- is its live bytes
abbrev pub to_compact : ℕ → ℕ → PageRow → Option Candidate
to_compact most number row =
    let label : Label = record { page = number; version = row.version } in
    if is_full row.state && not row.spared
    && nat_le (100 * row.live_bytes) most then Some (record { label = label; weight = row.live_bytes }) else None

-- the page that is evicted next, where at most drop_under pages are free
abbrev pub victim_evict : PageTable → Option Label
victim_evict t =
    if nat_le (free_count t) t.drop_under then option_map (λ c. c.label) (least_from (to_evict t.under) 0 t.rows)
    else None

-- the page that is compacted next, where at most compact_under pages are free
abbrev pub victim_compact : PageTable → Option Label
victim_compact t =
    if nat_le (free_count t) t.compact_under then option_map
    (λ c. c.label) (least_from (to_compact (t.max_frag * t.page_size)) 0 t.rows) else None

-- the label is that of a Full page that isn't under compaction
pub record MayEvict (t : PageTable) (label : Label) : Type 0 where
  pub at : IsAt is_full t label
  pub other : is_under t.under label ≡ false

-- of the pages that may be evicted it has the lowest version
pub record IsOldest (t : PageTable) (label : Label) : Type 0 where
  pub few : free_count t ≤ t.drop_under
  pub may : MayEvict t label
  pub oldest : (other : Label) → MayEvict t other → label.version ≤ other.version

-- where few enough pages are free, none may be evicted
abbrev pub NoneToEvict : PageTable → Type 0
NoneToEvict t = free_count t ≤ t.drop_under → (label : Label) → MayEvict t label → ⊥

-- the label is that of a Full page that isn't spared, with at most max_frag percent live
pub record MayCompact (t : PageTable) (label : Label) : Type 0 where
  pub at : IsAt is_full t label
  pub unspared : (row_of t label).spared ≡ false
  pub fragmented : 100 * (row_of t label).live_bytes ≤ t.max_frag * t.page_size

-- of the pages that may be compacted it has the fewest live bytes, and the lowest number of those
pub record IsEmptiest (t : PageTable) (label : Label) : Type 0 where
  pub few : free_count t ≤ t.compact_under
  pub may : MayCompact t label
  pub fewest : (other : Label) → MayCompact t other → (row_of t label).live_bytes ≤ (row_of t other).live_bytes
  pub first : (other : Label) → MayCompact t other → other.page < label.page
      → (row_of t label).live_bytes < (row_of t other).live_bytes

-- where few enough pages are free, none may be compacted
abbrev pub NoneToCompact : PageTable → Type 0
NoneToCompact t = free_count t ≤ t.compact_under → (label : Label) → MayCompact t label → ⊥
