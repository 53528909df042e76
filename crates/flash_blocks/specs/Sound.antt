-- What the table keeps.
use Rattle.std.specs.Prelude.{◌≡◌, ℕ, ◌+◌, ◌*◌, ◌%◌, ◌^◌, ◌<◌, ◌≤◌, Bool, false, nat_eq, length, Option, None, Some}
use Rattle.std.specs.Option.{ForSome}
use Rattle.flash_names.specs.Labels.{same_label}
use Rattle.flash_pages.specs.States.{is_open}
use Rattle.flash_pages.specs.PageTable.{PageTable, IsAt, row_of}
use Rattle.flash_buffers.specs.declared.buffers.BufferId.{BufferId}
use Rattle.flash_buffers.specs.Block.{Block}
use Rattle.flash_buffers.specs.BufferTable.{BufferTable, block_of, IsOpen}
use Rattle.flash_blocks.specs.declared.open_page.OpenPage.{OpenPage}
use Rattle.flash_blocks.specs.BlockTable.{BlockTable, block_at, bytes_used, block_offset}
use Rattle.flash_blocks.specs.Rooms.{closed}

-- a page has a block at least, and fewer than 2^32 bytes
pub record HasSizes (page_size size : ℕ) : Type 0 where
  pub some : 0 < size
  pub fits : size ≤ page_size
  pub short : page_size < 2 ^ 32

-- a block in a buffer is one of an Open page, and its records fit in it
pub record IsPageBlock (pages : PageTable) (size : ℕ) (block : Block) : Type 0 where
  pub at : IsAt is_open pages block.label
  pub given : block.label.version ≤ pages.last_version
  pub aligned : block.offset % size ≡ 0
  pub within : block.offset + size ≤ pages.page_size
  pub full : length block.records ≤ size

-- the block is that behind the used ones of the page
pub record IsOpenBlock (size : ℕ) (page : OpenPage) (block : Block) : Type 0 where
  pub label : block.label ≡ page.label
  pub offset : block.offset ≡ block_offset size page

-- the buffer is open, and has the block behind the used ones of the page
pub record HasOpenBlock (buffers : BufferTable) (page : OpenPage) (id : BufferId) : Type 0 where
  pub unsealed : IsOpen buffers id.number
  pub block : ForSome (block_of buffers id.number) (IsOpenBlock buffers.size page)

-- whether the buffer has this number
abbrev pub is_number : ℕ → Option BufferId → Bool
is_number number None = false
is_number number (Some id) = nat_eq id.number number

-- a block of the page's label ends before those that aren't used
abbrev pub IsBehind : ℕ → OpenPage → Block → Type 0
IsBehind size page block = block.label ≡ page.label → block.offset + size ≤ block_offset size page

-- how many bytes of the page's blocks are used up or have records
abbrev pub bytes_put : BufferTable → OpenPage → ℕ
bytes_put buffers page = block_offset buffers.size page + bytes_used (block_at buffers page.buffer)

-- the bucket's page is Open; its open block is in an open buffer, its used blocks alone are in others; and its
-- live records, of 32 bytes or more, were put
pub record IsOpenPage (pages : PageTable) (buffers : BufferTable) (page : OpenPage) : Type 0 where
  pub at : IsAt is_open pages page.label
  pub given : page.label.version ≤ pages.last_version
  pub within : block_offset buffers.size (closed page) ≤ pages.page_size
  pub block : ForSome page.buffer (HasOpenBlock buffers page)
  pub behind : (number : ℕ) → is_number number page.buffer ≡ false
      → ForSome (block_of buffers number) (IsBehind buffers.size page)
  pub live : 32 * (row_of pages page.label).live ≤ bytes_put buffers page
  pub live_bytes : (row_of pages page.label).live_bytes ≤ bytes_put buffers page

-- the page has no open block, and a further one
pub record HasNextBlock (t : BlockTable) (page : OpenPage) : Type 0 where
  pub closed : page.buffer ≡ None
  pub within : block_offset t.buffers.size page + t.buffers.size ≤ t.pages.page_size

-- the buckets' pages are of different labels
abbrev pub AreApart : Option OpenPage → Option OpenPage → Type 0
AreApart default compact = ForSome default (λ one. ForSome compact (λ other. same_label one.label other.label ≡ false))

-- what `Blocks` keeps
pub record IsSound (t : BlockTable) : Type 0 where
  pub sizes : HasSizes t.pages.page_size t.buffers.size
  pub default : ForSome t.default (IsOpenPage t.pages t.buffers)
  pub compact : ForSome t.compact (IsOpenPage t.pages t.buffers)
  pub blocks : (number : ℕ) → ForSome (block_of t.buffers number) (IsPageBlock t.pages t.buffers.size)
  pub apart : AreApart t.default t.compact
