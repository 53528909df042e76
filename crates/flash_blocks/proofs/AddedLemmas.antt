-- What is left of a sound table where a record is appended to a bucket's open block.
use Rattle.std.proofs.Common.{◌≡◌, ℕ, ◌+◌, Bool, true, cond, List, length, Option, Some, None, sym, ap, ◌∙◌, subst}
use Rattle.flash_names.specs.declared.place.Label.{Label}
use Rattle.flash_names.specs.declared.place.Place.{Place}
use Rattle.flash_pages.specs.declared.page_row.Bucket.{Bucket}
use Rattle.flash_pages.specs.PageTable.{PageTable}
use Rattle.flash_pages.specs.Calls.{table_after as pages_after, adds_live}
use Rattle.flash_buffers.specs.declared.buffers.BufferId.{BufferId}
use Rattle.flash_buffers.specs.Block.{Block, fits_in, place_in}
use Rattle.flash_buffers.specs.BufferTable.{BufferTable, block_of}
use Rattle.flash_blocks.specs.declared.open_page.OpenPage.{OpenPage}
use Rattle.flash_blocks.specs.BlockTable.{BlockTable, open_page, page_of, block_in}
use Rattle.flash_blocks.specs.Rooms.{fits_here, fits_block}
use Rattle.flash_blocks.specs.Calls.{length_of}
use Rattle.flash_blocks.specs.Sound.{IsOpenPage, IsSound}
use Rattle.flash_blocks.proofs.SoundLemmas.{IsKept, page_sound}
use Rattle.flash_blocks.proofs.StepLemmas.{page_of_parts}
use Rattle.flash_blocks.proofs.AppendLemmas.{Appends, appends_of, appended, appended_sound}
use Rattle.flash_blocks.proofs.RoomLemmas.{set_same}
use Rattle.flash_blocks.proofs.KeptLemmas.{page_with}

-- the open block of the bucket is in this buffer, and the record fits in it
pub record HasRoom (t : BlockTable) (bucket : Bucket) (id : BufferId) (n : ℕ) : Type 0 where
  pub page : open_page t bucket ≡ Some (page_of_parts (page_of t bucket).label (page_of t bucket).used (Some id))
  pub fits : (block : Block) → block_of t.buffers id.number ≡ Some block → fits_in t.buffers.size n block ≡ true

pub has_room : (t : BlockTable) (bucket : Bucket) (id : BufferId) (n : ℕ) → Some id ≡ (page_of t bucket).buffer → fits_here t bucket n ≡ true → HasRoom t bucket id n
has_room t bucket id n buffer_is fits =
    let page : OpenPage = page_of t bucket in
    let whole : page ≡ page_of_parts page.label page.used (Some id) = ap (λ (b : Option BufferId). page_of_parts page.label page.used b) (sym buffer_is) in
    let is : open_page t bucket ≡ Some (page_of_parts page.label page.used (Some id)) = page_with (open_page t bucket) id (sym buffer_is) ∙ ap (λ (p : OpenPage). Some p) whole in
    record {
      page = is;
      fits = λ block there. sym (ap (λ (p : Option OpenPage). fits_block t.buffers.size n (block_in t.buffers p)) is ∙ ap (λ (b : Option Block). fits_block t.buffers.size n b) there) ∙ fits;
    }

-- the place has the label of the block and the record's length
place_is : (size : ℕ) (key : List ℕ) (flags cas : ℕ) (value : List ℕ) (block : Block) (place : Place) → fits_in size (length_of key value) block ≡ true → Some place ≡ place_in size key flags cas value (Some block) → (place.label ≡ block.label) × (place.length ≡ length_of key value)
place_is size key flags cas value block place fits is =
    let at : Place = record { label = block.label; offset = block.offset + length block.records; length = length_of key value } in
    let there : Some place ≡ Some at = is ∙ ap (λ (yes : Bool). cond yes (Some at) None) fits in
    let same : place ≡ at = cc in
    (ap (λ (p : Place). p.label) same, ap (λ (p : Place). p.length) same)

pub added_kept : (t : BlockTable) (page_size size : ℕ) (bucket : Bucket) (id : BufferId) (key : List ℕ) (flags cas : ℕ) (value : List ℕ) (place : Place) (pages : PageTable) (buffers : BufferTable) → IsKept page_size size t → HasRoom t bucket id (length_of key value)
    → Some place ≡ place_in t.buffers.size key flags cas value (block_of t.buffers id.number)
    → buffers ≡ appended t.buffers id.number key flags cas value
    → pages ≡ pages_after (adds_live place.label place.length) t.pages
    → IsKept page_size size (record t { pages = pages; buffers = buffers })
added_kept t page_size size bucket id key flags cas value place pages buffers kept room there buffers_are pages_are =
    let label : Label = (page_of t bucket).label in
    let used : ℕ = (page_of t bucket).used in
    let page : OpenPage = page_of_parts label used (Some id) in
    let own : IsOpenPage t.pages t.buffers page = page_sound t bucket kept.2 page room.page in
    let has : Appends t.pages t.buffers label used id key flags cas value = appends_of t.pages t.buffers label used id key flags cas value own room.fits in
    let at = place_is t.buffers.size key flags cas value has.block place (room.fits has.block has.is) (there ∙ ap (λ (b : Option Block). place_in t.buffers.size key flags cas value b) has.is) in
    let put : PageTable = pages_after (adds_live label (length_of key value)) t.pages in
    let pages_put : pages ≡ put = pages_are ∙ ap (λ (l : Label). pages_after (adds_live l place.length) t.pages) (at.0 ∙ has.own.label) ∙ ap (λ (n : ℕ). pages_after (adds_live label n) t.pages) at.1 in
    let new : BufferTable = appended t.buffers id.number key flags cas value in
    let sound : IsSound (record t { pages = put; buffers = new }) = subst IsSound (set_same t bucket (Some page) put new room.page) (appended_sound t bucket label used id key flags cas value kept.2 room.page has) in
    subst (λ (p : PageTable). IsKept page_size size (record t { pages = p; buffers = buffers })) (sym pages_put)
    (subst (λ (b : BufferTable). IsKept page_size size (record t { pages = put; buffers = b })) (sym buffers_are) (kept.0, kept.1, sound))
