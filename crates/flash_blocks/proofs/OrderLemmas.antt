-- A table stays in order where a block is sealed, a buffer is taken, a page is opened, and a record is appended.
use Rattle.std.proofs.Common.{◌≡◌, ℕ, ◌+◌, ◌<◌, ◌≤◌, Bool, true, false, cond, nat_eq, is_none, IsSome, IfSome, List, [], ◌∷◌, ◌++◌, length, get_or, set, Option, Some, None, unwrap_or, refl, sym, ap, ◌∙◌, subst, arith, inl, inr}
use Rattle.std.specs.List.{position_from, list_any}
use Rattle.std.specs.Option.{ForSome}
use Rattle.std.proofs.lemmas.Bool.{false_from_ne_true}
use Rattle.std.proofs.lemmas.Bool.Decides.{eqb_tells}
use Rattle.std.proofs.lemmas.List.{get_or-set_same, length-set}
use Rattle.flash_names.specs.declared.geometry.Geometry.{Geometry}
use Rattle.flash_names.specs.declared.place.Label.{Label}
use Rattle.flash_names.specs.Geometry.{Passes}
use Rattle.flash_pages.specs.declared.page_row.Bucket.{Bucket}
use Rattle.flash_pages.specs.declared.pages.Opened.{Opened}
use Rattle.flash_pages.specs.declared.pages.Opened.TheVariants.{Page}
use Rattle.flash_pages.specs.PageTable.{PageTable}
use Rattle.flash_pages.specs.Opening.{next_opening, with_page_opened as page_opened}
use Rattle.flash_buffers.specs.declared.buffers.BufferId.{BufferId}
use Rattle.flash_buffers.specs.Block.{Block}
use Rattle.flash_buffers.specs.BufferTable.{BufferTable, block_of, first_free, is_sealed, IsOpen}
use Rattle.flash_buffers.specs.Calls.{with_block, takes, appends}
use Rattle.flash_buffers.proofs.LawLemmas.{free_at, step_apart, first_apart, none_at}
use Rattle.flash_blocks.specs.declared.open_page.OpenPage.{OpenPage}
use Rattle.flash_blocks.specs.BlockTable.{BlockTable, first_table, open_page, with_open_page, page_of, no_page, block_offset, block_at, block_in}
use Rattle.flash_blocks.specs.Rooms.{closed, fits_here, fits_block}
use Rattle.flash_blocks.specs.Calls.{with_sealed, with_closed, with_block_sealed, with_page_opened, with_taken, with_appended, with_record, length_of}
use Rattle.flash_blocks.specs.Held.{IsInOne}
use Rattle.flash_blocks.specs.InOrder.{AreTaken, IsInOrder}
use Rattle.flash_blocks.specs.Sound.{HasOpenBlock, HasNextBlock, IsOpenPage, IsSound}
use Rattle.flash_blocks.proofs.SoundLemmas.{page_sound, sealed_push, some_of}
use Rattle.flash_blocks.proofs.StepLemmas.{page_of_parts, other_block, empty_block, id_of, sealed_sound, taken_sound}
use Rattle.flash_blocks.proofs.AppendLemmas.{Appends, appends_of, appended, appended_sound, opened_sound}
use Rattle.flash_blocks.proofs.RoomLemmas.{set_late, set_buffers, set_pages, set_same, opened_size}
use Rattle.flash_blocks.proofs.KeptLemmas.{can_take, opened_next, taken_fits}
use Rattle.flash_blocks.proofs.AddedLemmas.{HasRoom, has_room}

-- the first table
pub first_in_order : (g : Geometry) → Passes g → IsInOrder (first_table g)
first_in_order g passes = record {
  sound = record {
    sizes = record { some = omega (arith, passes.buffer_size.0); fits = passes.page_size.1; short = omega (arith, passes.page_size.2) };
    default = λ page is. absurd (cc is);
    compact = λ page is. absurd (cc is);
    blocks = λ number block is. absurd (let none : block_of (first_table g).buffers number ≡ None = none_at g.buffers number in cc);
    apart = λ one is. absurd (cc is);
  };
  one = first_apart g.buffers g.buffer_size;
  taken = λ number is. absurd (cc is);
}

-- sealing
sealed_one : (buffers : BufferTable) (buffer : Option BufferId) → IsInOne buffers → IsInOne (with_sealed buffers buffer)
sealed_one buffers None one = one
sealed_one buffers (Some id) one = one

-- a number in the queue that isn't its last was there before
sealed_before : (queue : List ℕ) (n m : ℕ) → nat_eq n m ≡ false → list_any (λ k. nat_eq k m) (queue ++ n ∷ []) ≡ true → list_any (λ k. nat_eq k m) queue ≡ true
sealed_before queue n m differ is = either (list_any (λ k. nat_eq k m) queue) refl where
  either : (b : Bool) → list_any (λ k. nat_eq k m) queue ≡ b → list_any (λ k. nat_eq k m) queue ≡ true
  either true there = there
  either false none = absurd (let gone = sealed_push queue n m differ none in cc)

sealed_taken : (buffers : BufferTable) (page : OpenPage) (buffer : Option BufferId) → ForSome buffer (HasOpenBlock buffers page) → AreTaken buffers → AreTaken (with_sealed buffers buffer)
sealed_taken buffers page None has taken = taken
sealed_taken buffers page (Some id) has taken = λ number is.
    elim (eqb_tells id.number number) [
      | inl same ↦ subst (λ (k : ℕ). IsSome (block_of buffers k)) same.1 (has id refl).unsealed.taken
      | inr other ↦ taken number (sealed_before buffers.queue id.number number other.0 is)
    ]

closed_in_order : (t : BlockTable) (bucket : Bucket) (page : Option OpenPage) → open_page t bucket ≡ page → IsInOrder t → IsInOrder (with_closed t bucket page)
closed_in_order t bucket None at is = is
closed_in_order t bucket (Some page) at is = record {
  sound = subst IsSound (set_buffers t bucket (Some (closed page)) (with_sealed t.buffers page.buffer)) (sealed_sound t bucket page is.sound at);
  one = sealed_one t.buffers page.buffer is.one;
  taken = sealed_taken t.buffers page page.buffer (page_sound t bucket is.sound page at).block is.taken;
}

pub sealed_in_order : (t : BlockTable) (bucket : Bucket) → IsInOrder t → IsInOrder (with_block_sealed t bucket)
sealed_in_order t bucket is = closed_in_order t bucket (open_page t bucket) refl is

-- the first free buffer is one of the buffers
free_inside : (from : ℕ) (blocks : List (Option Block)) (n : ℕ) → position_from (λ block. is_none block) from blocks ≡ Some n → n < from + length blocks
free_inside from [] n is = absurd (cc is)
free_inside from (block ∷ rest) n is = either (is_none block) is (free_inside (from + 1) rest n) where
  either : (free : Bool) → cond free (Some from) (position_from (λ block. is_none block) (from + 1) rest) ≡ Some n → (position_from (λ block. is_none block) (from + 1) rest ≡ Some n → n < from + 1 + length rest) → n < from + length (block ∷ rest)
  either true is later = let same : from ≡ n = cc in omega (arith, same)
  either false is later = omega (arith, later is)

-- taking
module _ (buffers : BufferTable) (label : Label) (offset : ℕ) where
  free_open : (free : Option ℕ) → first_free buffers ≡ free → AreTaken buffers → IfSome (id_of free) (λ id. IsOpen (with_block buffers label offset free) id.number)
  free_open None is taken = tt
  free_open (Some n) is taken =
      let new : Option Block = Some (empty_block label offset) in
      let inside : n < length buffers.blocks = omega (arith, free_inside 0 buffers.blocks n is) in
      let none : block_of buffers n ≡ None = free_at buffers.blocks n is in
      record {
        inside = omega (arith, inside, length-set buffers.blocks n new);
        taken = subst (λ (b : Option Block). IsSome b) (sym (get_or-set_same buffers.blocks n new None inside)) refl;
        unsealed = false_from_ne_true (is_sealed buffers n) (λ yes. (let some = some_of (block_of buffers n) (taken n yes) in let there = some.1 in cc));
      }

  block_taken : (free : Option ℕ) → first_free buffers ≡ free → AreTaken buffers → AreTaken (with_block buffers label offset free)
  block_taken None is taken = taken
  block_taken (Some n) is taken = λ number sealed.
      let new : Option Block = Some (empty_block label offset) in
      let inside : n < length buffers.blocks = omega (arith, free_inside 0 buffers.blocks n is) in
      elim (eqb_tells n number) [
        | inl same ↦ subst (λ (k : ℕ). IsSome (get_or (set buffers.blocks n new) k None)) same.1
            (subst (λ (b : Option Block). IsSome b) (sym (get_or-set_same buffers.blocks n new None inside)) refl)
        | inr other ↦ subst (λ (b : Option Block). IsSome b) (sym (other_block buffers n number new other.0)) (taken number sealed)
      ]

module _ (t : BlockTable) (bucket : Bucket) where
  taken_unsealed : (page : OpenPage) → IsInOrder t → IfSome (id_of (first_free t.buffers)) (λ id. IsOpen (with_block t.buffers page.label (block_offset t.buffers.size page) (first_free t.buffers)) id.number)
  taken_unsealed page is = free_open t.buffers page.label (block_offset t.buffers.size page) (first_free t.buffers) refl is.taken

  pub taken_in_order : (page : Option OpenPage) → open_page t bucket ≡ page → ForSome page (HasNextBlock t) → IsInOrder t → IsInOrder (with_taken t bucket page)
  taken_in_order None at next is = is
  taken_in_order (Some page) at next is =
      let offset : ℕ = block_offset t.buffers.size page in
      let id : Option BufferId = id_of (first_free t.buffers) in
      let new : BufferTable = with_block t.buffers page.label offset (first_free t.buffers) in
      record {
        sound = subst IsSound (set_buffers t bucket (Some (record page { buffer = id })) new) (taken_sound t bucket page new id is.sound at (next page refl) refl refl (taken_unsealed page is));
        one = step_apart t.buffers (takes page.label offset) (can_take t bucket page is.sound at (next page refl)) is.one;
        taken = block_taken t.buffers page.label offset (first_free t.buffers) refl is.taken;
      }

  -- a record then fits
  pub taken_has_room : (page : Option OpenPage) (n : ℕ) → IsSome page → IsInOrder t → IsSome (first_free t.buffers) → n ≤ t.buffers.size → fits_here (with_taken t bucket page) bucket n ≡ true
  taken_has_room None n some is free short = absurd (cc some)
  taken_has_room (Some page) n some is free short =
      let offset : ℕ = block_offset t.buffers.size page in
      let id : Option BufferId = id_of (first_free t.buffers) in
      let new : BufferTable = with_block t.buffers page.label offset (first_free t.buffers) in
      taken_fits t bucket page id offset new (with_taken t bucket (Some page)) n refl (taken_unsealed page is) refl
      (sym (set_late t bucket (Some (record page { buffer = id })) t.pages new ∙ set_buffers t bucket (Some (record page { buffer = id })) new)) free short

  -- opening
  pub opened_in_order : (label : Label) → next_opening t.pages bucket ≡ Page label → IsInOrder t → IsInOrder (with_page_opened t bucket label)
  opened_in_order label opens is =
      let page : Option OpenPage = Some (page_of_parts label 0 None) in
      let pages : PageTable = page_opened t.pages bucket (next_opening t.pages bucket) in
      let sound : IsSound (record (with_open_page t bucket page) { pages = pages; buffers = t.buffers }) =
      subst (λ (o : Opened). IsSound (record (with_open_page t bucket page) { pages = page_opened t.pages bucket o; buffers = t.buffers })) (sym opens) (opened_sound t bucket label is.sound opens) in
      record {
        sound = subst IsSound (set_pages t bucket page pages) sound;
        one = subst IsInOne (sym (opened_size t bucket label)) is.one;
        taken = subst AreTaken (sym (opened_size t bucket label)) is.taken;
      }

  pub opened_ready : (label : Label) → IsInOrder (with_page_opened t bucket label) → ForSome (open_page (with_page_opened t bucket label) bucket) (HasNextBlock (with_page_opened t bucket label))
  opened_ready label is =
      let new : BlockTable = with_page_opened t bucket label in
      let page : Option OpenPage = Some (page_of_parts label 0 None) in
      let pages : PageTable = page_opened t.pages bucket (next_opening t.pages bucket) in
      opened_next t new.pages.page_size new.buffers.size bucket label pages new (refl, refl, is.sound)
      (sym (set_late t bucket page pages t.buffers ∙ set_pages t bucket page pages))

-- the buffer of the block in which a record fits
id_in : (buffers : BufferTable) (n : ℕ) (buffer : Option BufferId) → fits_block buffers.size n (block_at buffers buffer) ≡ true → (id : BufferId) × (buffer ≡ Some id)
id_in buffers n None fits = absurd (cc fits)
id_in buffers n (Some id) fits = (id, refl)

id_by : (buffers : BufferTable) (n : ℕ) (page : Option OpenPage) → fits_block buffers.size n (block_in buffers page) ≡ true → (id : BufferId) × ((unwrap_or page no_page).buffer ≡ Some id)
id_by buffers n None fits = absurd (cc fits)
id_by buffers n (Some page) fits = id_in buffers n page.buffer fits

-- appending: what is known where a record fits in the bucket's open block
pub record HasPlace (t : BlockTable) (bucket : Bucket) (key : List ℕ) (flags cas : ℕ) (value : List ℕ) : Type 0 where
  pub id : BufferId
  pub buffer : (page_of t bucket).buffer ≡ Some id
  pub page : open_page t bucket ≡ Some (page_of_parts (page_of t bucket).label (page_of t bucket).used (Some id))
  pub own : IsOpenPage t.pages t.buffers (page_of_parts (page_of t bucket).label (page_of t bucket).used (Some id))
  pub appends : Appends t.pages t.buffers (page_of t bucket).label (page_of t bucket).used id key flags cas value

pub has_place : (t : BlockTable) (bucket : Bucket) (key : List ℕ) (flags cas : ℕ) (value : List ℕ) → fits_here t bucket (length_of key value) ≡ true → IsSound t → HasPlace t bucket key flags cas value
has_place t bucket key flags cas value fits sound =
    let found = id_by t.buffers (length_of key value) (open_page t bucket) fits in
    let id : BufferId = found.0 in
    let buffer : (page_of t bucket).buffer ≡ Some id = found.1 in
    let label : Label = (page_of t bucket).label in
    let used : ℕ = (page_of t bucket).used in
    let room : HasRoom t bucket id (length_of key value) = has_room t bucket id (length_of key value) (sym buffer) fits in
    let own : IsOpenPage t.pages t.buffers (page_of_parts label used (Some id)) = page_sound t bucket sound (page_of_parts label used (Some id)) room.page in
    record {
      id = id;
      buffer = buffer;
      page = room.page;
      own = own;
      appends = appends_of t.pages t.buffers label used id key flags cas value own room.fits;
    }

module _ (t : BlockTable) (bucket : Bucket) (key : List ℕ) (flags cas : ℕ) (value : List ℕ) (has : HasPlace t bucket key flags cas value) where
  -- the buffers after the record
  pub buffers_are : with_appended t.buffers (page_of t bucket).buffer key flags cas value ≡ appended t.buffers has.id.number key flags cas value
  buffers_are = ap (λ (b : Option BufferId). with_appended t.buffers b key flags cas value) has.buffer

  appended_taken : AreTaken t.buffers → AreTaken (appended t.buffers has.id.number key flags cas value)
  appended_taken taken = λ number sealed.
      elim (eqb_tells has.id.number number) [
        | inl same ↦ subst (λ (k : ℕ). IsSome (block_of (appended t.buffers has.id.number key flags cas value) k)) same.1 (subst (λ (b : Option Block). IsSome b) (sym has.appends.after) refl)
        | inr other ↦ subst (λ (b : Option Block). IsSome b) (sym (other_block t.buffers has.id.number number _ other.0)) (taken number sealed)
      ]

  pub recorded_in_order : IsInOrder t → IsInOrder (with_record t bucket key flags cas value)
  recorded_in_order is =
      let label : Label = (page_of t bucket).label in
      let used : ℕ = (page_of t bucket).used in
      let pages : PageTable = (with_record t bucket key flags cas value).pages in
      subst (λ (b : BufferTable). IsInOrder (record t { pages = pages; buffers = b })) (sym buffers_are) (record {
        sound = subst IsSound (set_same t bucket (Some (page_of_parts label used (Some has.id))) pages (appended t.buffers has.id.number key flags cas value) has.page)
            (appended_sound t bucket label used has.id key flags cas value is.sound has.page has.appends);
        one = step_apart t.buffers (appends has.id.number key flags cas value) has.appends.unsealed is.one;
        taken = appended_taken is.taken;
      })
