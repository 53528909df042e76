-- What each call keeps.
use Rattle.std.proofs.Common.{◌≡◌, ℕ, ◌+◌, Bool, true, false, cond, List, Option, Some, None, refl, ap, ◌∙◌, subst}
use Rattle.flash_names.specs.declared.place.Label.{Label}
use Rattle.flash_pages.specs.declared.page_row.Bucket.{Bucket}
use Rattle.flash_pages.specs.declared.pages.Opened.{Opened}
use Rattle.flash_pages.specs.declared.pages.Opened.TheVariants.{Page, NoPage as NoneOpened}
use Rattle.flash_pages.specs.PageTable.{PageTable, with_row}
use Rattle.flash_pages.specs.Opening.{next_opening, with_page_opened as page_opened}
use Rattle.flash_pages.specs.Calls.{has_ended, fills, table_after as fills_page}
use Rattle.flash_buffers.specs.declared.buffers.BufferId.{BufferId}
use Rattle.flash_buffers.specs.BufferTable.{BufferTable}
use Rattle.flash_buffers.specs.Calls.{table_after as buffers_after, takes, writes as writes_block, unwrites as unwrites_block, drops}
use Rattle.flash_buffers.proofs.LawLemmas.{step_size, step_apart}
use Rattle.flash_blocks.specs.declared.open_page.OpenPage.{OpenPage}
use Rattle.flash_blocks.specs.declared.answers.Room.{Room}
use Rattle.flash_blocks.specs.declared.answers.Room.TheVariants.{Here, Next, Opens, NoBuffer, NoPage}
use Rattle.flash_blocks.specs.BlockTable.{BlockTable, open_page, block_offset, page_of}
use Rattle.flash_blocks.specs.Rooms.{room}
use Rattle.flash_blocks.specs.Calls.{Call, puts, seals, takes_live, begins, unwrites, writes, fails, pins, unpins, ends, frees, Allowed, table_after, holds_record, length_of, with_block_sealed, with_taken, with_block_taken, with_page_opened, with_room, with_record, with_appended, with_page_filled, with_page_left, is_whole, after_put}
use Rattle.flash_blocks.specs.Held.{IsInOne, FreesNone}
use Rattle.flash_blocks.specs.InOrder.{IsInOrder}
use Rattle.flash_blocks.specs.Laws.{HasSizesOf}
use Rattle.flash_blocks.proofs.PageLemmas.{KeepsOpen, none, taken_keeps, pinned_keeps, unpinned_keeps, ended_keeps, freed_keeps, opened_keeps}
use Rattle.flash_blocks.proofs.SoundLemmas.{with_pages}
use Rattle.flash_blocks.proofs.RoomLemmas.{sealed_leaves, opened_size}
use Rattle.flash_blocks.proofs.KeptLemmas.{flight_kept}
use Rattle.flash_blocks.proofs.OrderLemmas.{sealed_in_order}
use Rattle.flash_blocks.proofs.PutLemmas.{taken_pages, put_in_order}

-- sizes
sizes_both : (t mid new : BlockTable) → HasSizesOf t mid → HasSizesOf mid new → HasSizesOf t new
sizes_both t mid new one two = record { block = two.block ∙ one.block; page = two.page ∙ one.page }

same_sizes : (t : BlockTable) → HasSizesOf t t
same_sizes t = record { block = refl; page = refl }

sealed_sizes : (t : BlockTable) (bucket : Bucket) → HasSizesOf t (with_block_sealed t bucket)
sealed_sizes t bucket = record { block = (sealed_leaves t bucket).size; page = ap (λ (p : PageTable). p.page_size) (sealed_leaves t bucket).pages }

taken_size : (t : BlockTable) (bucket : Bucket) (page : Option OpenPage) → (with_taken t bucket page).buffers.size ≡ t.buffers.size
taken_size t bucket None = refl
taken_size t bucket (Some page) = step_size t.buffers (takes page.label (block_offset t.buffers.size page))

taken_sizes : (t : BlockTable) (bucket : Bucket) → HasSizesOf t (with_block_taken t bucket)
taken_sizes t bucket = record {
  block = taken_size t bucket (open_page t bucket);
  page = ap (λ (p : PageTable). p.page_size) (taken_pages t bucket (open_page t bucket));
}

page_opened_size : (pages : PageTable) (bucket : Bucket) (opened : Opened) → (page_opened pages bucket opened).page_size ≡ pages.page_size
page_opened_size pages bucket NoneOpened = refl
page_opened_size pages bucket (Page label) = refl

opened_sizes : (t : BlockTable) (bucket : Bucket) (label : Label) → HasSizesOf t (with_page_opened t bucket label)
opened_sizes t bucket label = record {
  block = ap (λ (b : BufferTable). b.size) (opened_size t bucket label);
  page = page_opened_size t.pages bucket (next_opening t.pages bucket);
}

appended_size : (buffers : BufferTable) (buffer : Option BufferId) (key : List ℕ) (flags cas : ℕ) (value : List ℕ) → (with_appended buffers buffer key flags cas value).size ≡ buffers.size
appended_size buffers None key flags cas value = refl
appended_size buffers (Some id) key flags cas value = refl

room_sizes : (t : BlockTable) (bucket : Bucket) (at : Room) → HasSizesOf t (with_room t bucket at)
room_sizes t bucket Here = same_sizes t
room_sizes t bucket Next =
    let sealed : BlockTable = with_block_sealed t bucket in
    sizes_both t sealed (with_block_taken sealed bucket) (sealed_sizes t bucket) (taken_sizes sealed bucket)
room_sizes t bucket (Opens label) =
    let sealed : BlockTable = with_block_sealed t bucket in
    let opened : BlockTable = with_page_opened sealed bucket label in
    sizes_both t opened (with_block_taken opened bucket) (sizes_both t sealed opened (sealed_sizes t bucket) (opened_sizes sealed bucket label)) (taken_sizes opened bucket)
room_sizes t bucket NoBuffer = same_sizes t
room_sizes t bucket NoPage = same_sizes t

module _ (t : BlockTable) (bucket : Bucket) (key : List ℕ) (flags cas : ℕ) (value : List ℕ) where
  recorded_sizes : (at : Room) → HasSizesOf t (with_record (with_room t bucket at) bucket key flags cas value)
  recorded_sizes at =
      let s : BlockTable = with_room t bucket at in
      sizes_both t s (with_record s bucket key flags cas value) (room_sizes t bucket at) (record { block = appended_size s.buffers (page_of s bucket).buffer key flags cas value; page = refl })

  put_sizes : (at : Room) → HasSizesOf t (after_put t bucket key flags cas value at)
  put_sizes Here = recorded_sizes Here
  put_sizes Next = recorded_sizes Next
  put_sizes (Opens label) = recorded_sizes (Opens label)
  put_sizes NoBuffer = same_sizes t
  put_sizes NoPage = same_sizes t

seal_sizes : (t : BlockTable) (bucket : Bucket) (holds : Bool) → HasSizesOf t (cond holds (with_block_sealed t bucket) t)
seal_sizes t bucket true = sealed_sizes t bucket
seal_sizes t bucket false = same_sizes t

-- the page of a block that was written, where each of its blocks was
abbrev filled : BlockTable → Label → BlockTable
filled t label = record (with_page_left t label) { pages = fills_page (fills label) t.pages }

filled_sizes : (t : BlockTable) (label : Label) (whole : Bool) → HasSizesOf t (cond whole (filled t label) t)
filled_sizes t label true = record { block = refl; page = refl }
filled_sizes t label false = same_sizes t

filled_one : (t : BlockTable) (label : Label) (whole : Bool) → IsInOne t.buffers → IsInOne (cond whole (filled t label) t).buffers
filled_one t label true one = one
filled_one t label false one = one

pinned_sizes : (t : BlockTable) (label : Label) (ended : Bool) → (cond ended t.pages (with_row t.pages label (λ row. record row { pins = row.pins + 1 }))).page_size ≡ t.pages.page_size
pinned_sizes t label true = refl
pinned_sizes t label false = refl

pub call_sizes : (t : BlockTable) (call : Call) → HasSizesOf t (table_after call t)
call_sizes t (puts bucket key flags cas value) = put_sizes t bucket key flags cas value (room t bucket (length_of key value))
call_sizes t (seals bucket) = seal_sizes t bucket (holds_record t bucket)
call_sizes t (takes_live place) = record { block = refl; page = refl }
call_sizes t begins = record { block = refl; page = refl }
call_sizes t (unwrites job) = record { block = refl; page = refl }
call_sizes t (writes job) =
    let mid : BlockTable = record t { buffers = buffers_after (writes_block job) t.buffers } in
    sizes_both t mid (with_page_filled mid job.place.label) (record { block = step_size t.buffers (writes_block job); page = refl }) (filled_sizes mid job.place.label (is_whole mid job.place.label))
call_sizes t (fails job) = record { block = refl; page = refl }
call_sizes t (pins label) = record { block = refl; page = pinned_sizes t label (has_ended t.pages label) }
call_sizes t (unpins label) = record { block = refl; page = refl }
call_sizes t (ends label) = record { block = refl; page = refl }
call_sizes t (frees label) = record { block = refl; page = refl }

-- order
pages_in_order : (t : BlockTable) (new : PageTable) → KeepsOpen none t.pages new → IsInOrder t → IsInOrder (record t { pages = new })
pages_in_order t new keeps is = record { sound = with_pages t new keeps is.sound; one = is.one; taken = is.taken }

flight_in_order : (t : BlockTable) (in_flight : Bool) → IsInOrder t → IsInOrder (record t { buffers = record t.buffers { in_flight = in_flight } })
flight_in_order t in_flight is = record {
  sound = (flight_kept t t.pages.page_size t.buffers.size (record t.buffers { in_flight = in_flight }) in_flight refl (refl, refl, is.sound)).2;
  one = is.one;
  taken = is.taken;
}

seal_in_order : (t : BlockTable) (bucket : Bucket) (holds : Bool) → IsInOrder t → IsInOrder (cond holds (with_block_sealed t bucket) t)
seal_in_order t bucket true is = sealed_in_order t bucket is
seal_in_order t bucket false is = is

pub call_in_order : (t : BlockTable) (call : Call) → Allowed t call → FreesNone call → IsInOrder t → IsInOrder (table_after call t)
call_in_order t (puts bucket key flags cas value) may keeps is = put_in_order t bucket key flags cas value is may
call_in_order t (seals bucket) may keeps is = seal_in_order t bucket (holds_record t bucket) is
call_in_order t (takes_live place) may keeps is = pages_in_order t _ (taken_keeps t.pages place.label place.length may) is
call_in_order t begins may keeps is = flight_in_order t _ is
call_in_order t (unwrites job) may keeps is = flight_in_order t false is
call_in_order t (writes job) may keeps is = absurd keeps
call_in_order t (fails job) may keeps is = absurd keeps
call_in_order t (pins label) may keeps is = pages_in_order t _ (pinned_keeps t.pages label) is
call_in_order t (unpins label) may keeps is = pages_in_order t _ (unpinned_keeps t.pages label) is
call_in_order t (ends label) may keeps is = pages_in_order t _ (ended_keeps t.pages label may) is
call_in_order t (frees label) may keeps is = pages_in_order t _ (freed_keeps t.pages label may) is

-- a byte of a label in one buffer
pub call_one : (t : BlockTable) (call : Call) → Allowed t call → IsInOrder t → IsInOne (table_after call t).buffers
call_one t (writes job) may is =
    let mid : BlockTable = record t { buffers = buffers_after (writes_block job) t.buffers } in
    filled_one mid job.place.label (is_whole mid job.place.label) (step_apart t.buffers (writes_block job) may is.one)
call_one t (fails job) may is =
    let mid : BufferTable = buffers_after (unwrites_block job) t.buffers in
    step_apart mid (drops job.place.label) (λ out. absurd (cc out)) (step_apart t.buffers (unwrites_block job) may is.one)
call_one t (puts bucket key flags cas value) may is = (call_in_order t (puts bucket key flags cas value) may tt is).one
call_one t (seals bucket) may is = (call_in_order t (seals bucket) may tt is).one
call_one t (takes_live place) may is = is.one
call_one t begins may is = is.one
call_one t (unwrites job) may is = is.one
call_one t (pins label) may is = is.one
call_one t (unpins label) may is = is.one
call_one t (ends label) may is = is.one
call_one t (frees label) may is = is.one

-- a page that is opened
pub opening_in_order : (t : BlockTable) (bucket : Bucket) (label : Label) → next_opening t.pages bucket ≡ Page label → IsInOrder t → IsInOrder (record t { pages = page_opened t.pages bucket (Page label) })
opening_in_order t bucket label next is =
    subst (λ (o : Opened). IsInOrder (record t { pages = page_opened t.pages bucket o })) next (pages_in_order t _ (opened_keeps t.pages bucket) is)
