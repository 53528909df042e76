-- What each call answers, when it may be made, and what is after it.
use Rattle.std.specs.Prelude.{ℕ, ◌+◌, ◌≤◌, Bool, false, not, ◌&&◌, nat_lt, List, length, Option, None, Some, Result, Ok, Err, option_map, if◌then◌else◌}
use Rattle.std.specs.List.{list_any}
use Rattle.flash_names.specs.declared.place.Label.{Label}
use Rattle.flash_names.specs.declared.place.Place.{Place}
use Rattle.flash_names.specs.Labels.{same_label}
use Rattle.flash_pages.specs.declared.page_row.Bucket.{Bucket}
use Rattle.flash_pages.specs.States.{is_full}
use Rattle.flash_pages.specs.PageTable.{IsAt}
use Rattle.flash_pages.specs.Calls.{CanPin, HasPin, HasLive, CanFree, table_after as pages_after, opens, pins as pins_page, unpins as unpins_page, adds_live, takes_live as takes_live_of, fills, ends as ends_page, frees as frees_page}
use Rattle.flash_buffers.specs.declared.buffers.BufferId.{BufferId}
use Rattle.flash_buffers.specs.declared.buffers.WriteJob.{WriteJob}
use Rattle.flash_buffers.specs.Covering.{has_label}
use Rattle.flash_buffers.specs.BufferTable.{BufferTable, first_free}
use Rattle.flash_buffers.specs.Calls.{IsInFlight, table_after as buffers_after, takes, appends, seals as seals_buffer, begins as begins_write, writes as writes_block, unwrites as unwrites_block, drops}
use Rattle.flash_blocks.specs.declared.open_page.OpenPage.{OpenPage}
use Rattle.flash_blocks.specs.declared.answers.Room.{Room}
use Rattle.flash_blocks.specs.declared.answers.Room.TheVariants.{Here, Next, Opens, NoBuffer, NoPage}
use Rattle.flash_blocks.specs.declared.answers.Put.{Put}
use Rattle.flash_blocks.specs.declared.answers.Full.{Full}
use Rattle.flash_blocks.specs.declared.answers.Full.TheVariants.{NoBuffer as BuffersFull, NoPage as PagesFull}
use Rattle.flash_blocks.specs.BlockTable.{BlockTable, open_page, with_open_page, page_of, open_block, bytes_used, block_offset}
use Rattle.flash_blocks.specs.Rooms.{closed, has_next_in, room}

-- the calls that change the table, with what they are given
pub data Call : Type 0 where
  puts : Bucket → List ℕ → ℕ → ℕ → List ℕ → Call
  seals : Bucket → Call
  takes_live : Place → Call
  begins : Call
  unwrites : WriteJob → Call
  writes : WriteJob → Call
  fails : WriteJob → Call
  pins : Label → Call
  unpins : Label → Call
  ends : Label → Call
  frees : Label → Call

-- the buffers after this one was sealed, where there is one
abbrev pub with_sealed : BufferTable → Option BufferId → BufferTable
with_sealed buffers None = buffers
with_sealed buffers (Some id) = buffers_after (seals_buffer id.number) buffers

-- the table after the open block of the bucket's page, where there are both, was sealed and used up
abbrev pub with_closed : BlockTable → Bucket → Option OpenPage → BlockTable
with_closed t bucket None = t
with_closed t bucket (Some page) =
    record (with_open_page t bucket (Some (closed page))) { buffers = with_sealed t.buffers page.buffer }

-- after the bucket's open block, where it has one, was sealed and used up
abbrev pub with_block_sealed : BlockTable → Bucket → BlockTable
with_block_sealed t bucket = with_closed t bucket (open_page t bucket)

-- after this page was opened for the bucket
abbrev pub with_page_opened : BlockTable → Bucket → Label → BlockTable
with_page_opened t bucket label =
    record (with_open_page t bucket (Some (record { label = label; used = 0; buffer = None }))) {
      pages = pages_after (opens bucket) t.pages;
    }

-- after a free buffer was taken for the next block of the bucket's page
abbrev pub with_taken : BlockTable → Bucket → Option OpenPage → BlockTable
with_taken t bucket None = t
with_taken t bucket (Some page) =
    let id : Option BufferId = option_map (λ number. record { number = number }) (first_free t.buffers) in
    record (with_open_page t bucket (Some (record page { buffer = id }))) {
      buffers = buffers_after (takes page.label (block_offset t.buffers.size page)) t.buffers;
    }

-- after the bucket's page has got an open block
abbrev pub with_block_taken : BlockTable → Bucket → BlockTable
with_block_taken t bucket = with_taken t bucket (open_page t bucket)

-- after what this room asks for: a record then fits in the bucket's open block, unless there is no room
abbrev pub with_room : BlockTable → Bucket → Room → BlockTable
with_room t bucket Here = t
with_room t bucket Next = with_block_taken (with_block_sealed t bucket) bucket
with_room t bucket (Opens label) = with_block_taken (with_page_opened (with_block_sealed t bucket) bucket label) bucket
with_room t bucket NoBuffer = t
with_room t bucket NoPage = t

-- how many bytes the record of a key and a value has
abbrev pub length_of : List ℕ → List ℕ → ℕ
length_of key value = 32 + length key + length value

-- the buffers with the record in this one
abbrev pub with_appended : BufferTable → Option BufferId → List ℕ → ℕ → ℕ → List ℕ → BufferTable
with_appended buffers None key flags cas value = buffers
with_appended buffers (Some id) key flags cas value = buffers_after (appends id.number key flags cas value) buffers

-- after the record was appended to the bucket's open block, and is counted as live
abbrev pub with_record : BlockTable → Bucket → List ℕ → ℕ → ℕ → List ℕ → BlockTable
with_record t bucket key flags cas value =
    let page : OpenPage = page_of t bucket in
    record t {
      pages = pages_after (adds_live page.label (length_of key value)) t.pages;
      buffers = with_appended t.buffers page.buffer key flags cas value;
    }

-- the place behind the records of the bucket's open block
abbrev pub next_place : BlockTable → Bucket → ℕ → Place
next_place t bucket n = record {
  label = (page_of t bucket).label;
  offset = block_offset t.buffers.size (page_of t bucket) + bytes_used (open_block t bucket);
  length = n;
}

-- after the record was put where there is this room
abbrev pub after_put : BlockTable → Bucket → List ℕ → ℕ → ℕ → List ℕ → Room → BlockTable
after_put t bucket key flags cas value Here = with_record t bucket key flags cas value
after_put t bucket key flags cas value Next = with_record (with_room t bucket Next) bucket key flags cas value
after_put t bucket key flags cas value (Opens label) =
    with_record (with_room t bucket (Opens label)) bucket key flags cas value
after_put t bucket key flags cas value NoBuffer = t
after_put t bucket key flags cas value NoPage = t

-- the answer where a record of n bytes has this room
abbrev pub put_in : BlockTable → Bucket → ℕ → Room → Result Put Full
put_in t bucket n Here = Ok (record { place = next_place t bucket n; opened = None })
put_in t bucket n Next = Ok (record { place = next_place (with_room t bucket Next) bucket n; opened = None })
put_in t bucket n (Opens label) =
    Ok (record { place = next_place (with_room t bucket (Opens label)) bucket n; opened = Some label })
put_in t bucket n NoBuffer = Err BuffersFull
put_in t bucket n NoPage = Err PagesFull

-- the label of the page that is opened, where one is, or why there is no room
abbrev pub opened_in : Room → Result (Option Label) Full
opened_in Here = Ok None
opened_in Next = Ok None
opened_in (Opens label) = Ok (Some label)
opened_in NoBuffer = Err BuffersFull
opened_in NoPage = Err PagesFull

-- what putting a record of n bytes answers
abbrev pub put_answer : BlockTable → Bucket → ℕ → Result Put Full
put_answer t bucket n = put_in t bucket n (room t bucket n)

-- whether the bucket's open block holds a record
abbrev pub holds_record : BlockTable → Bucket → Bool
holds_record t bucket = nat_lt 0 (bytes_used (open_block t bucket))

-- whether the bucket's page has this label
abbrev pub is_page_of : Label → Option OpenPage → Bool
is_page_of label None = false
is_page_of label (Some page) = same_label page.label label

-- whether the page has this label and a further block
abbrev pub has_more : BlockTable → Label → Option OpenPage → Bool
has_more t label page = is_page_of label page && has_next_in t.buffers.size t.pages.page_size page

-- whether each block of the label's page was written: none is in a buffer, and none is still to be used
abbrev pub is_whole : BlockTable → Label → Bool
is_whole t label =
    not (list_any (λ block. has_label label block) t.buffers.blocks)
    && not (has_more t label t.default)
    && not (has_more t label t.compact)

-- a bucket's page, unless it has this label
abbrev pub page_without : Label → Option OpenPage → Option OpenPage
page_without label page = if is_page_of label page then None else page

-- no bucket has the label's page
abbrev pub with_page_left : BlockTable → Label → BlockTable
with_page_left t label =
    record t { default = page_without label t.default; compact = page_without label t.compact }

-- after the label's page, where each of its blocks was written, became Full
abbrev pub with_page_filled : BlockTable → Label → BlockTable
with_page_filled t label =
    if is_whole t label then record (with_page_left t label) { pages = pages_after (fills label) t.pages } else t

-- the call may be made
abbrev pub Allowed : BlockTable → Call → Type 0
Allowed t (puts bucket key flags cas value) = length_of key value ≤ t.buffers.size
Allowed t (seals bucket) = Unit {0}
Allowed t (takes_live place) = HasLive t.pages place.label place.length
Allowed t begins = Unit {0}
Allowed t (unwrites job) = IsInFlight t.buffers job
Allowed t (writes job) = IsInFlight t.buffers job
Allowed t (fails job) = IsInFlight t.buffers job
Allowed t (pins label) = CanPin t.pages label
Allowed t (unpins label) = HasPin t.pages label
Allowed t (ends label) = IsAt is_full t.pages label
Allowed t (frees label) = CanFree t.pages label

-- the table after the call
abbrev pub table_after : Call → BlockTable → BlockTable
table_after (puts bucket key flags cas value) t =
    after_put t bucket key flags cas value (room t bucket (length_of key value))
table_after (seals bucket) t = if holds_record t bucket then with_block_sealed t bucket else t
table_after (takes_live place) t =
    record t { pages = pages_after (takes_live_of place.label place.length) t.pages }
table_after begins t = record t { buffers = buffers_after begins_write t.buffers }
table_after (unwrites job) t = record t { buffers = buffers_after (unwrites_block job) t.buffers }
table_after (writes job) t =
    with_page_filled (record t { buffers = buffers_after (writes_block job) t.buffers }) job.place.label
table_after (fails job) t =
    record (with_page_left t job.place.label) {
      pages = pages_after (ends_page job.place.label) t.pages;
      buffers = buffers_after (drops job.place.label) (buffers_after (unwrites_block job) t.buffers);
    }
table_after (pins label) t = record t { pages = pages_after (pins_page label) t.pages }
table_after (unpins label) t = record t { pages = pages_after (unpins_page label) t.pages }
table_after (ends label) t = record t { pages = pages_after (ends_page label) t.pages }
table_after (frees label) t = record t { pages = pages_after (frees_page label) t.pages }
