-- What each call leaves of a sound table, and what a sound table lets the calls of its pages and buffers do.
use Rattle.std.proofs.Common.{◌≡◌, ℕ, zero, suc, ◌+◌, ◌-◌, ◌*◌, ◌^◌, ◌<◌, ◌≤◌, Bool, true, false, nat_le, IsSome, IfSome, length, Option, Some, None, unwrap_or, refl, sym, ap, ◌∙◌, subst, arith}
use Rattle.std.proofs.Math.Nat.{mul-suc}
use Rattle.std.proofs.lemmas.Bool.{le-leb}
use Rattle.std.proofs.lemmas.Bool.Decides.{nat_tests}
use Rattle.std.proofs.lemmas.List.{get_or-set_same, length-set}
use Rattle.std.specs.Option.{ForSome}
use Rattle.flash_names.specs.declared.place.Label.{Label}
use Rattle.flash_names.specs.declared.place.Place.{Place}
use Rattle.flash_pages.specs.declared.page_row.Bucket.{Bucket}
use Rattle.flash_pages.specs.declared.pages.Opened.{Opened}
use Rattle.flash_pages.specs.declared.pages.Opened.TheVariants.{Page}
use Rattle.flash_pages.specs.PageTable.{PageTable}
use Rattle.flash_pages.specs.Opening.{next_opening, with_page_opened as page_opened}
use Rattle.flash_buffers.specs.declared.buffers.BufferId.{BufferId}
use Rattle.flash_buffers.specs.Block.{Block}
use Rattle.flash_buffers.specs.Covering.{covers}
use Rattle.flash_buffers.specs.BufferTable.{BufferTable, block_of, first_free, IsOpen}
use Rattle.flash_buffers.specs.Calls.{with_block, CanTake}
use Rattle.flash_buffers.proofs.ReadLemmas.{covering, label_is}
use Rattle.flash_blocks.specs.declared.open_page.OpenPage.{OpenPage}
use Rattle.flash_blocks.specs.BlockTable.{BlockTable, open_page, with_open_page, no_page, block_offset, block_in}
use Rattle.flash_blocks.specs.Rooms.{closed, has_next, has_next_in, fits_here, fits_block}
use Rattle.flash_blocks.specs.Calls.{with_sealed}
use Rattle.flash_blocks.specs.Sound.{HasSizes, HasNextBlock, IsOpenPage, is_number, IsSound}
use Rattle.flash_blocks.proofs.SoundLemmas.{IsKept, KeepsPage, page_sound, page_stays}
use Rattle.flash_blocks.proofs.StepLemmas.{page_of_parts, id_of, empty_block, sealed_sound, taken_sound}
use Rattle.flash_blocks.proofs.AppendLemmas.{opened_sound}
use Rattle.flash_blocks.proofs.RoomLemmas.{page_set, set_late}

-- a count of blocks that lie in a page
pub count_low : (n size page_size : ℕ) → HasSizes page_size size → n * size ≤ page_size → n < 2 ^ 32
count_low n zero page_size sizes within = absurd (omega (arith, sizes.some))
count_low n (suc k) page_size sizes within = omega (arith, mul-suc n k, within, sizes.short)

next_test : (size page_size n : ℕ) → n ≤ page_size → nat_le size (page_size - n) ≡ nat_le (n + size) page_size
next_test size page_size n within = grind (arith, nat_tests, within)

-- whether there is a further block, as the code tests it
pub next_is : (t now : BlockTable) (bucket : Bucket) (page after : OpenPage) (page_size size next : ℕ) → IsKept page_size size t → t ≡ now → open_page t bucket ≡ Some page → after ≡ closed page → next ≡ block_offset size after → nat_le size (page_size - next) ≡ has_next now bucket
next_is t now bucket page after page_size size next kept same is after_is at_is =
    let own : IsOpenPage t.pages t.buffers page = page_sound t bucket kept.2 page is in
    let at : next ≡ block_offset t.buffers.size (closed page) = at_is ∙ rw (after_is, kept.1) refl in
    let test : nat_le size (page_size - next) ≡ nat_le (block_offset t.buffers.size (closed page) + t.buffers.size) t.pages.page_size =
    rw (at, kept.0, kept.1) (next_test t.buffers.size t.pages.page_size (block_offset t.buffers.size (closed page)) own.within) in
    test ∙ ap (λ (p : Option OpenPage). has_next_in t.buffers.size t.pages.page_size p) (sym is) ∙ ap (λ (s : BlockTable). has_next s bucket) same

-- the page of an open buffer
pub page_with : (page : Option OpenPage) (id : BufferId) → (unwrap_or page no_page).buffer ≡ Some id → page ≡ Some (unwrap_or page no_page)
page_with None id is = absurd (cc is)
page_with (Some page) id is = refl

-- a table whose bucket got another page
placed : (t : BlockTable) (bucket : Bucket) (pages : PageTable) (buffers : BufferTable) (page set_to : OpenPage) (put : BufferTable) (new : BlockTable) → set_to ≡ page → put ≡ buffers → new ≡ with_open_page (record t { pages = pages; buffers = put }) bucket (Some set_to) → new ≡ record (with_open_page t bucket (Some page)) { pages = pages; buffers = buffers }
placed t bucket pages buffers page set_to put new page_is put_is new_is =
    new_is ∙ set_late t bucket (Some set_to) pages put
    ∙ ap (λ (p : OpenPage). record (with_open_page t bucket (Some p)) { pages = pages; buffers = put }) page_is
    ∙ ap (λ (b : BufferTable). record (with_open_page t bucket (Some page)) { pages = pages; buffers = b }) put_is

sealed_size : (buffers : BufferTable) (buffer : Option BufferId) → (with_sealed buffers buffer).size ≡ buffers.size
sealed_size buffers None = refl
sealed_size buffers (Some id) = refl

pub sealed_kept : (t : BlockTable) (page_size size : ℕ) (bucket : Bucket) (page after : OpenPage) (buffers : BufferTable) (new : BlockTable) → IsKept page_size size t → open_page t bucket ≡ Some page → after ≡ closed page → buffers ≡ with_sealed t.buffers page.buffer → new ≡ with_open_page (record t { buffers = buffers }) bucket (Some after) → IsKept page_size size new
sealed_kept t page_size size bucket page after buffers new kept is after_is sealed new_is =
    subst (IsKept page_size size) (sym (placed t bucket t.pages (with_sealed t.buffers page.buffer) (closed page) after buffers new after_is sealed new_is))
    (kept.0, kept.1 ∙ sym (sealed_size t.buffers page.buffer), sealed_sound t bucket page kept.2 is)

taken_size : (buffers : BufferTable) (label : Label) (offset : ℕ) (free : Option ℕ) → (with_block buffers label offset free).size ≡ buffers.size
taken_size buffers label offset None = refl
taken_size buffers label offset (Some n) = refl

pub taken_kept : (t : BlockTable) (page_size size : ℕ) (bucket : Bucket) (page : OpenPage) (id : Option BufferId) (offset : ℕ) (buffers : BufferTable) (new : BlockTable) → IsKept page_size size t → open_page t bucket ≡ Some page → HasNextBlock t page → offset ≡ block_offset t.buffers.size page → id ≡ id_of (first_free t.buffers) → IfSome id (λ i. IsOpen buffers i.number) → buffers ≡ with_block t.buffers page.label offset (first_free t.buffers) → new ≡ with_open_page (record t { buffers = buffers }) bucket (Some (record page { buffer = id })) → IsKept page_size size new
taken_kept t page_size size bucket page id offset buffers new kept is next offset_is id_is unsealed taken new_is =
    let at : buffers ≡ with_block t.buffers page.label (block_offset t.buffers.size page) (first_free t.buffers) = taken ∙ ap (λ (n : ℕ). with_block t.buffers page.label n (first_free t.buffers)) offset_is in
    subst (IsKept page_size size) (sym (placed t bucket t.pages buffers (record page { buffer = id }) (record page { buffer = id }) buffers new refl refl new_is))
    (kept.0, kept.1 ∙ sym (ap (λ (b : BufferTable). b.size) at ∙ taken_size t.buffers page.label (block_offset t.buffers.size page) (first_free t.buffers)), taken_sound t bucket page buffers id kept.2 is next at id_is unsealed)

-- a record of a block's size at most fits in a block that was taken
taken_holds : (buffers : BufferTable) (label : Label) (offset : ℕ) (free : Option ℕ) (n : ℕ) → IsSome free → IfSome (id_of free) (λ i. IsOpen (with_block buffers label offset free) i.number) → n ≤ buffers.size → fits_block (with_block buffers label offset free).size n (block_in (with_block buffers label offset free) (Some (page_of_parts label 0 (id_of free)))) ≡ true
taken_holds buffers label offset None n some unsealed short = absurd (cc some)
taken_holds buffers label offset (Some k) n some unsealed short =
    let new : Option Block = Some (empty_block label offset) in
    let inside : k < length buffers.blocks = omega (arith, unsealed.inside, length-set buffers.blocks k new) in
    ap (λ (b : Option Block). fits_block buffers.size n b) (get_or-set_same buffers.blocks k new None inside) ∙ le-leb (0 + n) buffers.size (omega (arith, short))

pub taken_fits : (t : BlockTable) (bucket : Bucket) (page : OpenPage) (id : Option BufferId) (offset : ℕ) (buffers : BufferTable) (new : BlockTable) (n : ℕ) → id ≡ id_of (first_free t.buffers) → IfSome id (λ i. IsOpen buffers i.number) → buffers ≡ with_block t.buffers page.label offset (first_free t.buffers) → new ≡ with_open_page (record t { buffers = buffers }) bucket (Some (record page { buffer = id })) → IsSome (first_free t.buffers) → n ≤ t.buffers.size → fits_here new bucket n ≡ true
taken_fits t bucket page id offset buffers new n id_is unsealed taken new_is some short =
    let free : Option ℕ = first_free t.buffers in
    let put : BufferTable = with_block t.buffers page.label offset free in
    let kept : IfSome (id_of free) (λ i. IsOpen put i.number) =
    subst (λ (b : BufferTable). IfSome (id_of free) (λ i. IsOpen b i.number)) taken (subst (λ (o : Option BufferId). IfSome o (λ i. IsOpen buffers i.number)) id_is unsealed) in
    let whole : new ≡ record (with_open_page t bucket (Some (record page { buffer = id_of free }))) { pages = t.pages; buffers = put } =
    placed t bucket t.pages put (record page { buffer = id_of free }) (record page { buffer = id }) buffers new (ap (λ (o : Option BufferId). record page { buffer = o }) id_is) taken new_is in
    ap (λ (s : BlockTable). fits_here s bucket n) whole
    ∙ ap (λ (p : Option OpenPage). fits_block put.size n (block_in put p)) (page_set t bucket (Some (record page { buffer = id_of free })) t.pages put)
    ∙ taken_holds t.buffers page.label offset free n some kept short

-- buffers of which only the job in flight is another
pub flight_kept : (t : BlockTable) (page_size size : ℕ) (buffers : BufferTable) (in_flight : Bool) → buffers ≡ record t.buffers { in_flight = in_flight } → IsKept page_size size t → IsKept page_size size (record t { buffers = buffers })
flight_kept t page_size size buffers in_flight is kept =
    let put : BufferTable = record t.buffers { in_flight = in_flight } in
    let keeps : (label : Label) → KeepsPage t.buffers put label = λ label. record {
      size = refl;
      blocks = λ number block there _. there;
      unsealed = λ number block unsealed there _. (record { inside = unsealed.inside; taken = unsealed.taken; unsealed = unsealed.unsealed }, there);
    } in
    subst (λ (b : BufferTable). IsKept page_size size (record t { buffers = b })) (sym is) (
      kept.0,
      kept.1,
      record {
        sizes = kept.2.sizes;
        default = λ page there. page_stays t.pages t.buffers put page (keeps page.label) (kept.2.default page there);
        compact = λ page there. page_stays t.pages t.buffers put page (keeps page.label) (kept.2.compact page there);
        blocks = kept.2.blocks;
        apart = kept.2.apart;
      },
    )

pub opened_kept : (t : BlockTable) (page_size size : ℕ) (bucket : Bucket) (label : Label) (pages : PageTable) (new : BlockTable) → IsKept page_size size t → next_opening t.pages bucket ≡ Page label → pages ≡ page_opened t.pages bucket (next_opening t.pages bucket) → new ≡ with_open_page (record t { pages = pages }) bucket (Some (page_of_parts label 0 None)) → IsKept page_size size new
opened_kept t page_size size bucket label pages new kept is opened new_is =
    let put : PageTable = page_opened t.pages bucket (Page label) in
    let pages_are : pages ≡ put = opened ∙ ap (λ (o : Opened). page_opened t.pages bucket o) is in
    let whole : new ≡ record (with_open_page t bucket (Some (page_of_parts label 0 None))) { pages = put; buffers = t.buffers } =
    new_is ∙ set_late t bucket (Some (page_of_parts label 0 None)) pages t.buffers ∙ ap (λ (p : PageTable). record (with_open_page t bucket (Some (page_of_parts label 0 None))) { pages = p; buffers = t.buffers }) pages_are in
    subst (IsKept page_size size) (sym whole) (kept.0, kept.1, opened_sound t bucket label kept.2 is)

-- the first block of a page that was opened is next
pub opened_next : (t : BlockTable) (page_size size : ℕ) (bucket : Bucket) (label : Label) (pages : PageTable) (new : BlockTable) → IsKept page_size size new → new ≡ with_open_page (record t { pages = pages }) bucket (Some (page_of_parts label 0 None)) → ForSome (open_page new bucket) (HasNextBlock new)
opened_next t page_size size bucket label pages new kept new_is = λ page there. (
    let page_is : open_page new bucket ≡ Some (page_of_parts label 0 None) = ap (λ (s : BlockTable). open_page s bucket) (new_is ∙ set_late t bucket (Some (page_of_parts label 0 None)) pages t.buffers) ∙ page_set t bucket (Some (page_of_parts label 0 None)) pages t.buffers in
    let same : page_of_parts label 0 None ≡ page = cc in
    subst (HasNextBlock new) same (record { closed = refl; within = omega (arith, kept.2.sizes.fits) }))

not_true : (b : Bool) → (b ≡ true → ⊥) → b ≡ false
not_true true never = absurd (never refl)
not_true false never = refl

covered : (size : ℕ) (place : Place) (block : Option Block) → covers size place block ≡ true → (b : Block) × (block ≡ Some b) × (covers size place (Some b) ≡ true)
covered size place None is = absurd (cc is)
covered size place (Some block) is = (block, refl, is)

-- a buffer may be taken for the next block of a page
pub can_take : (t : BlockTable) (bucket : Bucket) (page : OpenPage) → IsSound t → open_page t bucket ≡ Some page → HasNextBlock t page → CanTake t.buffers page.label (block_offset t.buffers.size page)
can_take t bucket page sound is next =
    let own : IsOpenPage t.pages t.buffers page = page_sound t bucket sound page is in
    record {
      within = omega (arith, next.within, sound.sizes.short);
      clear = λ number at low high. not_true _ (λ has. (
          let place : Place = record { label = page.label; offset = at; length = 1 } in
          let there = covered t.buffers.size place (block_of t.buffers number) has in
          let parts = covering t.buffers.size place there.0 there.2 in
          let other : is_number number page.buffer ≡ false = ap (λ (o : Option BufferId). is_number number o) next.closed in
          let behind : there.0.offset + t.buffers.size ≤ block_offset t.buffers.size page = own.behind number other there.0 there.1 (label_is there.0.label page.label parts.label) in
          omega (arith, parts.high, behind, low)));
    }
