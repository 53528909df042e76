-- What each step keeps of the table.
use Rattle.std.proofs.Common.{◌≡◌, ℕ, ◌+◌, ◌≤◌, ◌++◌, ◌∷◌, Bool, true, false, nat_eq, IsSome, List, [], Option, Some, None, refl, sym, ap, ◌∙◌, subst, arith, inl, inr}
use Rattle.std.proofs.lemmas.Bool.Decides.{nat_tests, eqb_tells}
use Rattle.std.proofs.lemmas.Bool.{or_parts}
use Rattle.std.specs.List.{list_any}
use Rattle.std.specs.Option.{ForSome}
use Rattle.flash_names.specs.declared.place.Label.{Label}
use Rattle.flash_names.specs.Labels.{same_label}
use Rattle.flash_pages.specs.declared.page_row.Bucket.{Bucket}
use Rattle.flash_pages.specs.declared.page_row.Bucket.TheVariants.{Default, Compact}
use Rattle.flash_pages.specs.PageTable.{PageTable}
use Rattle.flash_buffers.specs.declared.buffers.BufferId.{BufferId}
use Rattle.flash_buffers.specs.Block.{Block}
use Rattle.flash_buffers.specs.BufferTable.{BufferTable, block_of, IsOpen}
use Rattle.flash_buffers.proofs.ReadLemmas.{same_self}
use Rattle.flash_blocks.specs.declared.open_page.OpenPage.{OpenPage}
use Rattle.flash_blocks.specs.BlockTable.{BlockTable, open_page, with_open_page, block_at, bytes_used, block_offset}
use Rattle.flash_blocks.specs.Rooms.{closed}
use Rattle.flash_blocks.specs.Calls.{with_sealed}
use Rattle.flash_blocks.specs.Sound.{HasSizes, IsPageBlock, IsOpenBlock, HasOpenBlock, bytes_put, IsOpenPage, IsSound}
use Rattle.flash_blocks.proofs.PageLemmas.{IsNoWorse, KeepsOpen, none}

-- the page of a bucket is sound
pub page_sound : (t : BlockTable) (bucket : Bucket) → IsSound t → ForSome (open_page t bucket) (IsOpenPage t.pages t.buffers)
page_sound t Default sound = sound.default
page_sound t Compact sound = sound.compact

-- the other bucket
abbrev pub other_of : Bucket → Bucket
other_of Default = Compact
other_of Compact = Default

-- labels differ both ways
differs_back : (one other : Label) → same_label one other ≡ false → same_label other one ≡ false
differs_back one other differ = grind (arith, nat_tests)

-- the other bucket's page has another label
pub page_apart : (t : BlockTable) (bucket : Bucket) (page other : OpenPage) → IsSound t → open_page t bucket ≡ Some page → open_page t (other_of bucket) ≡ Some other → same_label other.label page.label ≡ false
page_apart t Default page other sound is there = differs_back page.label other.label (sound.apart page is other there)
page_apart t Compact page other sound is there = sound.apart other there page is

-- pages that are Open are kept
pub block_over : (but : Label → Bool) (old new : PageTable) (size : ℕ) (block : Block) → KeepsOpen but old new → but block.label ≡ false → IsPageBlock old size block → IsPageBlock new size block
block_over but old new size block keeps other is = record {
  at = (keeps.kept block.label other is.at).at;
  given = omega (arith, is.given, keeps.last);
  aligned = is.aligned;
  within = omega (arith, is.within, keeps.size);
  full = is.full;
}

pub page_over : (but : Label → Bool) (old new : PageTable) (buffers : BufferTable) (page : OpenPage) → KeepsOpen but old new → but page.label ≡ false → IsOpenPage old buffers page → IsOpenPage new buffers page
page_over but old new buffers page keeps other is =
    let kept : IsNoWorse old new page.label = keeps.kept page.label other is.at in
    record {
      at = kept.at;
      given = omega (arith, is.given, keeps.last);
      within = subst (λ (n : ℕ). block_offset buffers.size (closed page) ≤ n) (sym keeps.size) is.within;
      block = is.block;
      behind = is.behind;
      live = omega (arith, is.live, kept.live);
      live_bytes = omega (arith, is.live_bytes, kept.live_bytes);
    }

pub with_pages : (t : BlockTable) (new : PageTable) → KeepsOpen none t.pages new → IsSound t → IsSound (record t { pages = new })
with_pages t new keeps sound = record {
  sizes = subst (λ (n : ℕ). HasSizes n t.buffers.size) (sym keeps.size) sound.sizes;
  default = λ page is. page_over none t.pages new t.buffers page keeps refl (sound.default page is);
  compact = λ page is. page_over none t.pages new t.buffers page keeps refl (sound.compact page is);
  blocks = λ number block is. block_over none t.pages new t.buffers.size block keeps refl (sound.blocks number block is);
  apart = sound.apart;
}

-- the blocks of this label stay where they are, and none comes
pub record KeepsPage (old new : BufferTable) (label : Label) : Type 0 where
  pub size : new.size ≡ old.size
  pub blocks : (number : ℕ) (block : Block) → block_of new number ≡ Some block → block.label ≡ label → block_of old number ≡ Some block
  pub unsealed : (number : ℕ) (block : Block) → IsOpen old number → block_of old number ≡ Some block → block.label ≡ label
      → IsOpen new number × (block_of new number ≡ Some block)

pub some_of : {X : Type 0} (o : Option X) → IsSome o → (x : X) × (o ≡ Some x)
some_of None is = absurd (cc is)
some_of (Some x) is = (x, refl)

-- the block of an open buffer
pub open_block_of : (buffers : BufferTable) (page : OpenPage) (id : BufferId) → HasOpenBlock buffers page id → (block : Block) × (block_of buffers id.number ≡ Some block) × IsOpenBlock buffers.size page block
open_block_of buffers page id has =
    let some = some_of (block_of buffers id.number) has.unsealed.taken in
    (some.0, some.1, has.block some.0 some.1)

-- how many bytes were put depends on the open block alone
put_same : (old new : BufferTable) (page : OpenPage) → KeepsPage old new page.label → ForSome page.buffer (HasOpenBlock old page) → bytes_put new page ≡ bytes_put old page
put_same old new page keeps has = either page.buffer has where
  either : (buffer : Option BufferId) → ForSome buffer (HasOpenBlock old page) → block_offset new.size page + bytes_used (block_at new buffer) ≡ block_offset old.size page + bytes_used (block_at old buffer)
  either None has = ap (λ (n : ℕ). block_offset n page + 0) keeps.size
  either (Some id) has =
      let block = open_block_of old page id (has id refl) in
      let same : block_of new id.number ≡ Some block.0 = (keeps.unsealed id.number block.0 (has id refl).unsealed block.1 block.2.label).1 in
      ap (λ (n : ℕ). block_offset n page + bytes_used (block_of new id.number)) keeps.size ∙ ap (λ (b : Option Block). block_offset old.size page + bytes_used b) (same ∙ sym block.1)

pub page_stays : (pages : PageTable) (old new : BufferTable) (page : OpenPage) → KeepsPage old new page.label → IsOpenPage pages old page → IsOpenPage pages new page
page_stays pages old new page keeps is =
    let put : bytes_put new page ≡ bytes_put old page = put_same old new page keeps is.block in
    record {
      at = is.at;
      given = is.given;
      within = subst (λ (n : ℕ). block_offset n (closed page) ≤ pages.page_size) (sym keeps.size) is.within;
      block = λ id at. (
          let has : HasOpenBlock old page id = is.block id at in
          let block = open_block_of old page id has in
          let kept = keeps.unsealed id.number block.0 has.unsealed block.1 block.2.label in
          record {
            unsealed = kept.0;
            block = λ other there. (let same : block.0 ≡ other = cc in
                subst (λ (n : ℕ). IsOpenBlock n page other) (sym keeps.size) (subst (IsOpenBlock old.size page) same block.2));
          });
      behind = λ number other block there label. subst (λ (n : ℕ). block.offset + n ≤ block_offset n page) (sym keeps.size)
          (is.behind number other block (keeps.blocks number block there label) label);
      live = omega (arith, is.live, put);
      live_bytes = omega (arith, is.live_bytes, put);
    }

-- a page of a bucket takes the place of its page
pub with_page : (t : BlockTable) (bucket : Bucket) (pages : PageTable) (buffers : BufferTable) (page : OpenPage)
    → HasSizes pages.page_size buffers.size
    → IsOpenPage pages buffers page
    → ((other : OpenPage) → open_page t (other_of bucket) ≡ Some other → IsOpenPage pages buffers other × (same_label other.label page.label ≡ false))
    → ((number : ℕ) → ForSome (block_of buffers number) (IsPageBlock pages buffers.size))
    → IsSound (record (with_open_page t bucket (Some page)) { pages = pages; buffers = buffers })
with_page t Default pages buffers page sizes own others blocks = record {
  sizes = sizes;
  default = λ one is. (let same : page ≡ one = cc in subst (IsOpenPage pages buffers) same own);
  compact = λ other is. (others other is).0;
  blocks = blocks;
  apart = λ one is other there. (let same : page ≡ one = cc in subst (λ (p : OpenPage). same_label p.label other.label ≡ false) same (differs_back other.label page.label (others other there).1));
}
with_page t Compact pages buffers page sizes own others blocks = record {
  sizes = sizes;
  default = λ other is. (others other is).0;
  compact = λ one is. (let same : page ≡ one = cc in subst (IsOpenPage pages buffers) same own);
  blocks = blocks;
  apart = λ other there one is. (let same : page ≡ one = cc in subst (λ (p : OpenPage). same_label other.label p.label ≡ false) same (others other there).1);
}

-- a number that is put at the end of the queue
pub sealed_push : (queue : List ℕ) (n m : ℕ) → nat_eq n m ≡ false → list_any (λ k. nat_eq k m) queue ≡ false → list_any (λ k. nat_eq k m) (queue ++ n ∷ []) ≡ false
sealed_push [] n m differ unsealed = rw differ refl
sealed_push (k ∷ rest) n m differ unsealed =
    let parts = or_parts (nat_eq k m) (list_any (λ x. nat_eq x m) rest) unsealed in
    rw (parts.0, sealed_push rest n m differ parts.1) refl

-- numbers of blocks of other labels differ
numbers_differ : (buffers : BufferTable) (n m : ℕ) (one other : Block) → block_of buffers n ≡ Some one → block_of buffers m ≡ Some other → same_label other.label one.label ≡ false → nat_eq n m ≡ false
numbers_differ buffers n m one other is there differ =
    elim (eqb_tells n m) [
      | inl same ↦ absurd (
          let at : block_of buffers m ≡ Some one = subst (λ (k : ℕ). block_of buffers k ≡ Some one) same.1 is in
          let block : one ≡ other = cc in
          let yes : same_label other.label one.label ≡ true = subst (λ (b : Block). same_label other.label b.label ≡ true) (sym block) (same_self other.label) in
          cc)
      | inr other ↦ other.0
    ]

-- the sealing of another page's block
pub sealed_keeps : (buffers : BufferTable) (page : OpenPage) (buffer : Option BufferId) (label : Label) → ForSome buffer (HasOpenBlock buffers page) → same_label label page.label ≡ false → KeepsPage buffers (with_sealed buffers buffer) label
sealed_keeps buffers page None label has differ = record { size = refl; blocks = λ number block is _. is; unsealed = λ number block is there _. (is, there) }
sealed_keeps buffers page (Some id) label has differ = record {
  size = refl;
  blocks = λ number block is _. is;
  unsealed = λ number block is there own. (
      let mine = open_block_of buffers page id (has id refl) in
      let labels : same_label block.label mine.0.label ≡ false = rw (own, mine.2.label) differ in (
        record {
          inside = is.inside;
          taken = is.taken;
          unsealed = sealed_push buffers.queue id.number number (numbers_differ buffers id.number number mine.0 block mine.1 there labels) is.unsealed;
        },
        there,
      ));
}

-- the sizes that are kept beside a sound table
abbrev pub IsKept : ℕ → ℕ → BlockTable → Type 0
IsKept page_size size t = (page_size ≡ t.pages.page_size) × (size ≡ t.buffers.size) × IsSound t

pub kept_pages : (t : BlockTable) (page_size size : ℕ) (new : PageTable) → KeepsOpen none t.pages new → IsKept page_size size t → IsKept page_size size (record t { pages = new })
kept_pages t page_size size new keeps kept = (kept.0 ∙ sym keeps.size, kept.1, with_pages t new keeps kept.2)
