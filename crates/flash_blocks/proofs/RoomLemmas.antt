-- What a room says of the table, and what is there after it was made.
use Rattle.std.proofs.Common.{◌≡◌, ℕ, ◌+◌, ◌≤◌, Bool, true, false, cond, is_none, IsSome, List, Option, Some, None, Ok, Err, refl, sym, ap, ◌∙◌, subst}
use Rattle.std.proofs.lemmas.Bool.{leb-true}
use Rattle.std.specs.Option.{ForSome}
use Rattle.flash_names.specs.declared.place.Label.{Label}
use Rattle.flash_pages.specs.declared.page_row.Bucket.{Bucket}
use Rattle.flash_pages.specs.declared.page_row.Bucket.TheVariants.{Default, Compact}
use Rattle.flash_pages.specs.declared.pages.Opened.{Opened}
use Rattle.flash_pages.specs.declared.pages.Opened.TheVariants.{Page, NoPage as NoneOpened}
use Rattle.flash_pages.specs.PageTable.{PageTable}
use Rattle.flash_pages.specs.Opening.{next_opening}
use Rattle.flash_buffers.specs.declared.buffers.BufferId.{BufferId}
use Rattle.flash_buffers.specs.BufferTable.{BufferTable, first_free}
use Rattle.flash_blocks.specs.declared.open_page.OpenPage.{OpenPage}
use Rattle.flash_blocks.specs.declared.answers.Room.{Room}
use Rattle.flash_blocks.specs.declared.answers.Room.TheVariants.{Here, Next, Opens, NoBuffer, NoPage}
use Rattle.flash_blocks.specs.declared.answers.Full.{Full}
use Rattle.flash_blocks.specs.BlockTable.{BlockTable, open_page, with_open_page, block_offset}
use Rattle.flash_blocks.specs.Rooms.{room, room_of, fits_here, has_next, has_next_in, closed}
use Rattle.flash_blocks.specs.Calls.{with_sealed, with_closed, with_block_sealed, with_page_opened, with_room, with_record, after_put, put_in, opened_in, next_place}
use Rattle.flash_blocks.specs.Sound.{HasNextBlock}

-- the bucket's page that was set is there, and the pages and buffers stay
pub page_set : (t : BlockTable) (bucket : Bucket) (page : Option OpenPage) (pages : PageTable) (buffers : BufferTable) → open_page (record (with_open_page t bucket page) { pages = pages; buffers = buffers }) bucket ≡ page
page_set t Default page pages buffers = refl
page_set t Compact page pages buffers = refl

pub pages_left : (t : BlockTable) (bucket : Bucket) (page : Option OpenPage) → (with_open_page t bucket page).pages ≡ t.pages
pages_left t Default page = refl
pages_left t Compact page = refl

-- a page that is set where pages and buffers change
pub set_late : (t : BlockTable) (bucket : Bucket) (page : Option OpenPage) (pages : PageTable) (buffers : BufferTable) → with_open_page (record t { pages = pages; buffers = buffers }) bucket page ≡ record (with_open_page t bucket page) { pages = pages; buffers = buffers }
set_late t Default page pages buffers = refl
set_late t Compact page pages buffers = refl

pub set_buffers : (t : BlockTable) (bucket : Bucket) (page : Option OpenPage) (buffers : BufferTable) → record (with_open_page t bucket page) { pages = t.pages; buffers = buffers } ≡ record (with_open_page t bucket page) { buffers = buffers }
set_buffers t Default page buffers = refl
set_buffers t Compact page buffers = refl

pub set_pages : (t : BlockTable) (bucket : Bucket) (page : Option OpenPage) (pages : PageTable) → record (with_open_page t bucket page) { pages = pages; buffers = t.buffers } ≡ record (with_open_page t bucket page) { pages = pages }
set_pages t Default page pages = refl
set_pages t Compact page pages = refl

-- a page that is set to itself
pub set_same : (t : BlockTable) (bucket : Bucket) (page : Option OpenPage) (pages : PageTable) (buffers : BufferTable) → open_page t bucket ≡ page → record (with_open_page t bucket page) { pages = pages; buffers = buffers } ≡ record t { pages = pages; buffers = buffers }
set_same t Default page pages buffers is = ap (λ (p : Option OpenPage). record t { pages = pages; buffers = buffers; default = p }) (sym is)
set_same t Compact page pages buffers is = ap (λ (p : Option OpenPage). record t { pages = pages; buffers = buffers; compact = p }) (sym is)

-- what decides that a room is this one
here_is : (here full next : Bool) (opened : Opened) → cond here Here (cond full NoBuffer (cond next Next (room_of opened))) ≡ Here → here ≡ true
here_is true full next opened is = refl
here_is false true next opened is = absurd (cc is)
here_is false false true opened is = absurd (cc is)
here_is false false false NoneOpened is = absurd (cc is)
here_is false false false (Page label) is = absurd (cc is)

next_is : (here full next : Bool) (opened : Opened) → cond here Here (cond full NoBuffer (cond next Next (room_of opened))) ≡ Next → (full ≡ false) × (next ≡ true)
next_is true full next opened is = absurd (cc is)
next_is false true next opened is = absurd (cc is)
next_is false false true opened is = (refl, refl)
next_is false false false NoneOpened is = absurd (cc is)
next_is false false false (Page label) is = absurd (cc is)

opens_is : (here full next : Bool) (opened : Opened) (label : Label) → cond here Here (cond full NoBuffer (cond next Next (room_of opened))) ≡ Opens label → (full ≡ false) × (opened ≡ Page label)
opens_is true full next opened label is = absurd (cc is)
opens_is false true next opened label is = absurd (cc is)
opens_is false false true opened label is = absurd (cc is)
opens_is false false false NoneOpened label is = absurd (cc is)
opens_is false false false (Page other) label is = (refl, (let same : other ≡ label = cc in ap (λ (l : Label). Page l) same))

some_free : (free : Option ℕ) → is_none free ≡ false → IsSome free
some_free None is = absurd (cc is)
some_free (Some number) is = refl

pub here_fits : (t : BlockTable) (bucket : Bucket) (n : ℕ) → Here ≡ room t bucket n → fits_here t bucket n ≡ true
here_fits t bucket n is = here_is (fits_here t bucket n) (is_none (first_free t.buffers)) (has_next t bucket) (next_opening t.pages bucket) (sym is)

-- sealing changes neither the free buffers nor the size
sealed_free : (buffers : BufferTable) (buffer : Option BufferId) → (first_free (with_sealed buffers buffer) ≡ first_free buffers) × ((with_sealed buffers buffer).size ≡ buffers.size)
sealed_free buffers None = (refl, refl)
sealed_free buffers (Some id) = (refl, refl)

-- what sealing leaves
pub record IsSealed (t : BlockTable) (bucket : Bucket) (s : BlockTable) : Type 0 where
  pub free : first_free s.buffers ≡ first_free t.buffers
  pub size : s.buffers.size ≡ t.buffers.size
  pub pages : s.pages ≡ t.pages

closed_leaves : (t : BlockTable) (bucket : Bucket) (page : Option OpenPage) → IsSealed t bucket (with_closed t bucket page)
closed_leaves t bucket None = record { free = refl; size = refl; pages = refl }
closed_leaves t bucket (Some page) = record {
  free = (sealed_free t.buffers page.buffer).0;
  size = (sealed_free t.buffers page.buffer).1;
  pages = pages_left t bucket (Some (closed page));
}

pub sealed_leaves : (t : BlockTable) (bucket : Bucket) → IsSealed t bucket (with_block_sealed t bucket)
sealed_leaves t bucket = closed_leaves t bucket (open_page t bucket)

-- a page that has a further block has it next where it is closed
closed_next : (t : BlockTable) (bucket : Bucket) (page : Option OpenPage) → has_next_in t.buffers.size t.pages.page_size page ≡ true → ForSome (open_page (with_closed t bucket page) bucket) (HasNextBlock (with_closed t bucket page))
closed_next t bucket None has = absurd (cc has)
closed_next t bucket (Some page) has = λ other is. (
    let s : BlockTable = with_closed t bucket (Some page) in
    let left : IsSealed t bucket s = closed_leaves t bucket (Some page) in
    let there : open_page s bucket ≡ Some (closed page) = ap (λ (b : BlockTable). open_page b bucket) (sym (set_buffers t bucket (Some (closed page)) (with_sealed t.buffers page.buffer))) ∙ page_set t bucket (Some (closed page)) t.pages (with_sealed t.buffers page.buffer) in
    let same : closed page ≡ other = cc in
    let fits : block_offset t.buffers.size (closed page) + t.buffers.size ≤ t.pages.page_size = leb-true _ _ has in
    let paged : s.pages.page_size ≡ t.pages.page_size = ap (λ (p : PageTable). p.page_size) left.pages in
    subst (HasNextBlock s) same (record {
      closed = refl;
      within = subst (λ (n : ℕ). block_offset s.buffers.size (closed page) + s.buffers.size ≤ n) (sym paged)
          (subst (λ (n : ℕ). block_offset n (closed page) + n ≤ t.pages.page_size) (sym left.size) fits);
    }))

pub next_ready : (t : BlockTable) (bucket : Bucket) (n : ℕ) → Next ≡ room t bucket n → ForSome (open_page (with_block_sealed t bucket) bucket) (HasNextBlock (with_block_sealed t bucket))
next_ready t bucket n is = closed_next t bucket (open_page t bucket) (next_is (fits_here t bucket n) (is_none (first_free t.buffers)) (has_next t bucket) (next_opening t.pages bucket) (sym is)).1

pub next_free : (t : BlockTable) (bucket : Bucket) (n : ℕ) → Next ≡ room t bucket n → IsSome (first_free (with_block_sealed t bucket).buffers)
next_free t bucket n is = subst (λ (o : Option ℕ). IsSome o) (sym (sealed_leaves t bucket).free)
    (some_free (first_free t.buffers) (next_is (fits_here t bucket n) (is_none (first_free t.buffers)) (has_next t bucket) (next_opening t.pages bucket) (sym is)).0)

pub opens_free : (t : BlockTable) (bucket : Bucket) (n : ℕ) (label : Label) → Opens label ≡ room t bucket n → IsSome (first_free (with_block_sealed t bucket).buffers)
opens_free t bucket n label is = subst (λ (o : Option ℕ). IsSome o) (sym (sealed_leaves t bucket).free)
    (some_free (first_free t.buffers) (opens_is (fits_here t bucket n) (is_none (first_free t.buffers)) (has_next t bucket) (next_opening t.pages bucket) label (sym is)).0)

pub opens_page : (t : BlockTable) (bucket : Bucket) (n : ℕ) (label : Label) → Opens label ≡ room t bucket n → next_opening (with_block_sealed t bucket).pages bucket ≡ Page label
opens_page t bucket n label is = ap (λ (p : PageTable). next_opening p bucket) (sealed_leaves t bucket).pages
    ∙ (opens_is (fits_here t bucket n) (is_none (first_free t.buffers)) (has_next t bucket) (next_opening t.pages bucket) label (sym is)).1

-- the answer and the table by what making room answers
pub put_is : (t : BlockTable) (bucket : Bucket) (n : ℕ) (at : Room) (opened : Option Label) → opened_in at ≡ Ok opened → Ok (record { place = next_place (with_room t bucket at) bucket n; opened = opened }) ≡ put_in t bucket n at
put_is t bucket n Here opened is = ap (λ (o : Option Label). Ok (record { place = next_place t bucket n; opened = o })) (let same : opened ≡ None = cc in same)
put_is t bucket n Next opened is = ap (λ (o : Option Label). Ok (record { place = next_place (with_room t bucket Next) bucket n; opened = o })) (let same : opened ≡ None = cc in same)
put_is t bucket n (Opens label) opened is = ap (λ (o : Option Label). Ok (record { place = next_place (with_room t bucket (Opens label)) bucket n; opened = o })) (let same : opened ≡ Some label = cc in same)
put_is t bucket n NoBuffer opened is = absurd (cc is)
put_is t bucket n NoPage opened is = absurd (cc is)

pub put_refused : (t : BlockTable) (bucket : Bucket) (n : ℕ) (at : Room) (full : Full) → opened_in at ≡ Err full → Err full ≡ put_in t bucket n at
put_refused t bucket n Here full is = absurd (cc is)
put_refused t bucket n Next full is = absurd (cc is)
put_refused t bucket n (Opens label) full is = absurd (cc is)
put_refused t bucket n NoBuffer full is = cc
put_refused t bucket n NoPage full is = cc

pub put_after : (t : BlockTable) (bucket : Bucket) (key : List ℕ) (flags cas : ℕ) (value : List ℕ) (at : Room) (opened : Option Label) → opened_in at ≡ Ok opened → with_record (with_room t bucket at) bucket key flags cas value ≡ after_put t bucket key flags cas value at
put_after t bucket key flags cas value Here opened is = refl
put_after t bucket key flags cas value Next opened is = refl
put_after t bucket key flags cas value (Opens label) opened is = refl
put_after t bucket key flags cas value NoBuffer opened is = absurd (cc is)
put_after t bucket key flags cas value NoPage opened is = absurd (cc is)

pub refused_after : (t : BlockTable) (bucket : Bucket) (key : List ℕ) (flags cas : ℕ) (value : List ℕ) (at : Room) (full : Full) → opened_in at ≡ Err full → with_room t bucket at ≡ after_put t bucket key flags cas value at
refused_after t bucket key flags cas value Here full is = absurd (cc is)
refused_after t bucket key flags cas value Next full is = absurd (cc is)
refused_after t bucket key flags cas value (Opens label) full is = absurd (cc is)
refused_after t bucket key flags cas value NoBuffer full is = refl
refused_after t bucket key flags cas value NoPage full is = refl

closed_some : (t : BlockTable) (bucket : Bucket) (page : Option OpenPage) → has_next_in t.buffers.size t.pages.page_size page ≡ true → IsSome (open_page (with_closed t bucket page) bucket)
closed_some t bucket None has = absurd (cc has)
closed_some t Default (Some page) has = refl
closed_some t Compact (Some page) has = refl

pub next_some : (t : BlockTable) (bucket : Bucket) (n : ℕ) → Next ≡ room t bucket n → IsSome (open_page (with_block_sealed t bucket) bucket)
next_some t bucket n is = closed_some t bucket (open_page t bucket) (next_is (fits_here t bucket n) (is_none (first_free t.buffers)) (has_next t bucket) (next_opening t.pages bucket) (sym is)).1

pub opened_some : (t : BlockTable) (bucket : Bucket) (label : Label) → IsSome (open_page (with_page_opened t bucket label) bucket)
opened_some t Default label = refl
opened_some t Compact label = refl

pub opened_size : (t : BlockTable) (bucket : Bucket) (label : Label) → (with_page_opened t bucket label).buffers ≡ t.buffers
opened_size t Default label = refl
opened_size t Compact label = refl
