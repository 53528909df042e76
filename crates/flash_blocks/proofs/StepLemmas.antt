-- Sealing, taking and filling of a bucket's block, and the opening of its page.
use Rattle.std.proofs.Common.{◌≡◌, ℕ, ◌+◌, ◌*◌, ◌<◌, ◌≤◌, true, false, nat_eq, [], length, get_or, set, Option, Some, None, IfSome, IsSome, option_map, refl, sym, ap, ◌∙◌, subst, arith, inl, inr, add-zero, add-one}
use Rattle.std.proofs.Math.Nat.{suc-mul, mul-mod_left}
use Rattle.std.proofs.lemmas.Bool.Decides.{eqb_tells}
use Rattle.std.proofs.lemmas.List.{get_or-set_other, get_or-set_same, length-set}
use Rattle.std.specs.Option.{ForSome}
use Rattle.flash_names.specs.declared.place.Label.{Label}
use Rattle.flash_names.specs.Labels.{same_label}
use Rattle.flash_pages.specs.declared.page_row.Bucket.{Bucket}
use Rattle.flash_pages.specs.PageTable.{PageTable, row_of}
use Rattle.flash_buffers.specs.declared.buffers.BufferId.{BufferId}
use Rattle.flash_buffers.specs.Block.{Block}
use Rattle.flash_buffers.specs.BufferTable.{BufferTable, block_of, first_free, IsOpen}
use Rattle.flash_buffers.specs.Calls.{with_block}
use Rattle.flash_buffers.proofs.LawLemmas.{free_at, set_at}
use Rattle.flash_buffers.proofs.ReadLemmas.{same_self}
use Rattle.flash_blocks.specs.declared.open_page.OpenPage.{OpenPage}
use Rattle.flash_blocks.specs.BlockTable.{BlockTable, open_page, with_open_page, bytes_used, block_offset}
use Rattle.flash_blocks.specs.Rooms.{closed}
use Rattle.flash_blocks.specs.Calls.{with_sealed}
use Rattle.flash_blocks.specs.Sound.{HasSizes, IsPageBlock, IsOpenBlock, HasOpenBlock, IsOpenPage, HasNextBlock, IsSound}
use Rattle.flash_blocks.proofs.SoundLemmas.{KeepsPage, open_block_of, page_stays, page_sound, page_apart, other_of, sealed_keeps, with_page}

-- each block in a buffer is one of an Open page
abbrev pub AreSound : PageTable → BufferTable → Type 0
AreSound pages buffers = (number : ℕ) → ForSome (block_of buffers number) (IsPageBlock pages buffers.size)

-- the offset of the block after n blocks and one
next_offset : (n size : ℕ) → (n + 1) * size ≡ n * size + size
next_offset n size = rw add-one (suc-mul n size)

-- a page of these parts
abbrev pub page_of_parts : Label → ℕ → Option BufferId → OpenPage
page_of_parts label used buffer = record { label = label; used = used; buffer = buffer }

closed_own : (pages : PageTable) (buffers : BufferTable) (label : Label) (used : ℕ) (buffer : Option BufferId) → AreSound pages buffers → IsOpenPage pages buffers (page_of_parts label used buffer) → IsOpenPage pages (with_sealed buffers buffer) (closed (page_of_parts label used buffer))
closed_own pages buffers label used None blocks is = record {
  at = is.at;
  given = is.given;
  within = subst (λ (n : ℕ). n * buffers.size ≤ pages.page_size) (sym (add-zero (used + 0))) is.within;
  block = λ id at. absurd (cc at);
  behind = λ number other block there own. subst (λ (n : ℕ). block.offset + buffers.size ≤ n * buffers.size) (sym (add-zero used)) (is.behind number refl block there own);
  live = subst (λ (n : ℕ). 32 * (row_of pages label).live ≤ n * buffers.size + 0) (sym (add-zero used)) is.live;
  live_bytes = subst (λ (n : ℕ). (row_of pages label).live_bytes ≤ n * buffers.size + 0) (sym (add-zero used)) is.live_bytes;
}
closed_own pages buffers label used (Some id) blocks is =
    let mine = open_block_of buffers (page_of_parts label used (Some id)) id (is.block id refl) in
    let next : (used + 1) * buffers.size ≡ used * buffers.size + buffers.size = next_offset used buffers.size in
    let full : length mine.0.records ≤ buffers.size = (blocks id.number mine.0 mine.1).full in
    let put : bytes_used (block_of buffers id.number) ≡ length mine.0.records = ap (λ (b : Option Block). bytes_used b) mine.1 in
    record {
      at = is.at;
      given = is.given;
      within = subst (λ (n : ℕ). n * buffers.size ≤ pages.page_size) (sym (add-zero (used + 1))) is.within;
      block = λ other at. absurd (cc at);
      behind = λ number other block there own.
          elim (eqb_tells id.number number) [
            | inl same ↦ (
                let at : block_of buffers number ≡ Some mine.0 = subst (λ (k : ℕ). block_of buffers k ≡ Some mine.0) same.1 mine.1 in
                let one : block ≡ mine.0 = cc in
                let low : block.offset ≡ used * buffers.size = ap (λ (b : Block). b.offset) one ∙ mine.2.offset in
                omega (arith, low, next))
            | inr differ ↦ omega (arith, is.behind number differ.0 block there own, next)
          ];
      live = omega (arith, is.live, next, full, put);
      live_bytes = omega (arith, is.live_bytes, next, full, put);
    }

sealed_blocks : (pages : PageTable) (buffers : BufferTable) (buffer : Option BufferId) → AreSound pages buffers → AreSound pages (with_sealed buffers buffer)
sealed_blocks pages buffers None blocks = blocks
sealed_blocks pages buffers (Some id) blocks = blocks

sealed_sizes : (page_size : ℕ) (buffers : BufferTable) (buffer : Option BufferId) → HasSizes page_size buffers.size → HasSizes page_size (with_sealed buffers buffer).size
sealed_sizes page_size buffers None sizes = sizes
sealed_sizes page_size buffers (Some id) sizes = sizes

-- the bucket's open block is sealed and used up
pub sealed_sound : (t : BlockTable) (bucket : Bucket) (page : OpenPage) → IsSound t → open_page t bucket ≡ Some page → IsSound (record (with_open_page t bucket (Some (closed page))) { pages = t.pages; buffers = with_sealed t.buffers page.buffer })
sealed_sound t bucket page sound is =
    let own : IsOpenPage t.pages t.buffers page = page_sound t bucket sound page is in
    with_page t bucket t.pages (with_sealed t.buffers page.buffer) (closed page)
    (sealed_sizes t.pages.page_size t.buffers page.buffer sound.sizes)
    (closed_own t.pages t.buffers page.label page.used page.buffer sound.blocks own)
    (λ other there. (
    let differ : same_label other.label page.label ≡ false = page_apart t bucket page other sound is there in
    (page_stays t.pages t.buffers (with_sealed t.buffers page.buffer) other (sealed_keeps t.buffers page page.buffer other.label own.block differ) (page_sound t (other_of bucket) sound other there), differ)))
    (sealed_blocks t.pages t.buffers page.buffer sound.blocks)

-- another buffer gets a block
pub other_block : (buffers : BufferTable) (n m : ℕ) (new : Option Block) → nat_eq n m ≡ false → block_of (record buffers { blocks = set buffers.blocks n new }) m ≡ block_of buffers m
other_block buffers n m new differ =
    elim (eqb_tells n m) [
      | inl same ↦ absurd (cc (same.0, differ))
      | inr other ↦ get_or-set_other buffers.blocks n m new None (λ is. other.1 (sym is))
    ]

-- where a buffer had no block of this label and gets none, its page stays
pub set_keeps_page : (buffers : BufferTable) (n : ℕ) (new : Option Block) (label : Label) → ((block : Block) → new ≡ Some block → block.label ≡ label → ⊥) → ((block : Block) → block_of buffers n ≡ Some block → block.label ≡ label → ⊥) → KeepsPage buffers (record buffers { blocks = set buffers.blocks n new }) label
set_keeps_page buffers n new label not_new not_old = record {
  size = refl;
  blocks = λ number block is own.
      elim (eqb_tells n number) [
        | inl same ↦ absurd (elim (set_at buffers.blocks n new) [
          | inl there ↦ not_new block (sym there ∙ subst (λ (k : ℕ). get_or (set buffers.blocks n new) k None ≡ Some block) (sym same.1) is) own
          | inr gone ↦ (let at : get_or (set buffers.blocks n new) n None ≡ Some block = subst (λ (k : ℕ). get_or (set buffers.blocks n new) k None ≡ Some block) (sym same.1) is in cc)
        ])
        | inr differ ↦ sym (other_block buffers n number new differ.0) ∙ is
      ];
  unsealed = λ number block is there own.
      elim (eqb_tells n number) [
        | inl same ↦ absurd (not_old block (subst (λ (k : ℕ). block_of buffers k ≡ Some block) (sym same.1) there) own)
        | inr differ ↦ (
            let at : block_of (record buffers { blocks = set buffers.blocks n new }) number ≡ Some block = other_block buffers n number new differ.0 ∙ there in (
              record {
                inside = omega (arith, is.inside, length-set buffers.blocks n new);
                taken = subst (λ (b : Option Block). IsSome b) (sym at) refl;
                unsealed = is.unsealed;
              },
              at,
            ))
      ];
}

-- the blocks after a buffer got one
pub set_blocks : (pages : PageTable) (buffers : BufferTable) (n : ℕ) (new : Option Block) → ForSome new (IsPageBlock pages buffers.size) → AreSound pages buffers → AreSound pages (record buffers { blocks = set buffers.blocks n new })
set_blocks pages buffers n new good blocks = λ number block is.
    elim (eqb_tells n number) [
      | inl same ↦ (let at : get_or (set buffers.blocks n new) n None ≡ Some block = subst (λ (k : ℕ). get_or (set buffers.blocks n new) k None ≡ Some block) (sym same.1) is in
          elim (set_at buffers.blocks n new) [
            | inl there ↦ good block (sym there ∙ at)
            | inr gone ↦ absurd (cc (gone, at))
          ])
      | inr differ ↦ blocks number block (sym (other_block buffers n number new differ.0) ∙ is)
    ]

-- the block of a page that has no record yet
abbrev pub empty_block : Label → ℕ → Block
empty_block label offset = record { label = label; offset = offset; records = [] }

-- the buffer that was taken, by its number
abbrev pub id_of : Option ℕ → Option BufferId
id_of free = option_map (λ number. record { number = number }) free

taken_own : (pages : PageTable) (buffers : BufferTable) (label : Label) (used : ℕ) (free : Option ℕ) → used * buffers.size + buffers.size ≤ pages.page_size → IfSome (id_of free) (λ id. IsOpen (with_block buffers label (used * buffers.size) free) id.number) → IsOpenPage pages buffers (page_of_parts label used None) → IsOpenPage pages (with_block buffers label (used * buffers.size) free) (page_of_parts label used (id_of free))
taken_own pages buffers label used None fits unsealed is = is
taken_own pages buffers label used (Some n) fits unsealed is =
    let new : Option Block = Some (empty_block label (used * buffers.size)) in
    let inside : n < length buffers.blocks = omega (arith, unsealed.inside, length-set buffers.blocks n new) in
    let at : get_or (set buffers.blocks n new) n None ≡ new = get_or-set_same buffers.blocks n new None inside in
    let put : bytes_used (get_or (set buffers.blocks n new) n None) ≡ 0 = ap (λ (b : Option Block). bytes_used b) at in
    record {
      at = is.at;
      given = is.given;
      within = omega (arith, fits, next_offset used buffers.size);
      block = λ id there. (let same : record { number = n } ≡ id = cc in subst (λ (i : BufferId). HasOpenBlock (with_block buffers label (used * buffers.size) (Some n)) (page_of_parts label used (Some (record { number = n }))) i) same (record {
        unsealed = unsealed;
        block = λ block is_block. (let one : empty_block label (used * buffers.size) ≡ block = cc in subst (λ (b : Block). IsOpenBlock buffers.size (page_of_parts label used (Some (record { number = n }))) b) one (record { label = refl; offset = refl }));
      }));
      behind = λ number other block there own. is.behind number refl block (sym (other_block buffers n number new other) ∙ there) own;
      live = omega (arith, is.live, put);
      live_bytes = omega (arith, is.live_bytes, put);
    }

taken_others : (buffers : BufferTable) (label other : Label) (offset : ℕ) (free : Option ℕ) → first_free buffers ≡ free → same_label other label ≡ false → KeepsPage buffers (with_block buffers label offset free) other
taken_others buffers label other offset None is differ = record { size = refl; blocks = λ number block there _. there; unsealed = λ number block unsealed there _. (unsealed, there) }
taken_others buffers label other offset (Some n) is differ =
    set_keeps_page buffers n (Some (empty_block label offset)) other
    (λ block there own. (let one : label ≡ other = ap (λ (b : Block). b.label) (let same : empty_block label offset ≡ block = cc in same) ∙ own in
    let yes : same_label other label ≡ true = subst (λ (l : Label). same_label other l ≡ true) (sym one) (same_self other) in cc))
    (λ block there own. (let gone : block_of buffers n ≡ None = free_at buffers.blocks n is in cc))

taken_blocks : (pages : PageTable) (buffers : BufferTable) (label : Label) (used : ℕ) (free : Option ℕ) → used * buffers.size + buffers.size ≤ pages.page_size → IsOpenPage pages buffers (page_of_parts label used None) → AreSound pages buffers → AreSound pages (with_block buffers label (used * buffers.size) free)
taken_blocks pages buffers label used None fits is blocks = blocks
taken_blocks pages buffers label used (Some n) fits is blocks =
    set_blocks pages buffers n (Some (empty_block label (used * buffers.size))) (λ block there. (
    let one : empty_block label (used * buffers.size) ≡ block = cc in
    subst (IsPageBlock pages buffers.size) one (record {
      at = is.at;
      given = is.given;
      aligned = mul-mod_left used buffers.size;
      within = fits;
      full = omega arith;
    }))) blocks

taken_sizes : (page_size : ℕ) (buffers : BufferTable) (label : Label) (offset : ℕ) (free : Option ℕ) → HasSizes page_size buffers.size → HasSizes page_size (with_block buffers label offset free).size
taken_sizes page_size buffers label offset None sizes = sizes
taken_sizes page_size buffers label offset (Some n) sizes = sizes

-- a free buffer is taken for the next block of the bucket's page
pub taken_sound : (t : BlockTable) (bucket : Bucket) (page : OpenPage) (new : BufferTable) (id : Option BufferId) → IsSound t → open_page t bucket ≡ Some page → HasNextBlock t page
    → new ≡ with_block t.buffers page.label (block_offset t.buffers.size page) (first_free t.buffers)
    → id ≡ id_of (first_free t.buffers)
    → IfSome id (λ i. IsOpen new i.number)
    → IsSound (record (with_open_page t bucket (Some (record page { buffer = id }))) { pages = t.pages; buffers = new })
taken_sound t bucket page new id sound is next new_is id_is unsealed =
    let offset : ℕ = block_offset t.buffers.size page in
    let free : Option ℕ = first_free t.buffers in
    let plain : page ≡ page_of_parts page.label page.used None = ap (λ (b : Option BufferId). page_of_parts page.label page.used b) next.closed in
    let own : IsOpenPage t.pages t.buffers (page_of_parts page.label page.used None) = subst (IsOpenPage t.pages t.buffers) plain (page_sound t bucket sound page is) in
    let kept : IfSome (id_of free) (λ i. IsOpen (with_block t.buffers page.label offset free) i.number) =
    subst (λ (b : BufferTable). IfSome (id_of free) (λ i. IsOpen b i.number)) new_is (subst (λ (o : Option BufferId). IfSome o (λ i. IsOpen new i.number)) id_is unsealed) in
    subst (λ (b : BufferTable). IsSound (record (with_open_page t bucket (Some (record page { buffer = id }))) { pages = t.pages; buffers = b })) (sym new_is)
    (subst (λ (o : Option BufferId). IsSound (record (with_open_page t bucket (Some (record page { buffer = o }))) { pages = t.pages; buffers = with_block t.buffers page.label offset free })) (sym id_is)
    (with_page t bucket t.pages (with_block t.buffers page.label offset free) (record page { buffer = id_of free })
    (taken_sizes t.pages.page_size t.buffers page.label offset free sound.sizes)
    (taken_own t.pages t.buffers page.label page.used free next.within kept own)
    (λ other there. (
    let differ : same_label other.label page.label ≡ false = page_apart t bucket page other sound is there in
    (page_stays t.pages t.buffers (with_block t.buffers page.label offset free) other (taken_others t.buffers page.label other.label offset free refl differ) (page_sound t (other_of bucket) sound other there), differ)))
    (taken_blocks t.pages t.buffers page.label page.used free next.within own sound.blocks)))
