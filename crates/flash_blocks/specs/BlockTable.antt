-- Where moved values are: pages, buffers, and for each bucket the page that its records are appended to.
use Rattle.std.specs.Prelude.{ℕ, ◌*◌, length, Option, None, Some, unwrap_or}
use Rattle.flash_names.specs.declared.geometry.Geometry.{Geometry}
use Rattle.flash_pages.specs.declared.page_row.Bucket.{Bucket}
use Rattle.flash_pages.specs.declared.page_row.Bucket.TheVariants.{Default, Compact}
use Rattle.flash_pages.specs.PageTable.{PageTable, first_table as first_pages}
use Rattle.flash_buffers.specs.declared.buffers.BufferId.{BufferId}
use Rattle.flash_buffers.specs.Block.{Block}
use Rattle.flash_buffers.specs.BufferTable.{BufferTable, block_of, first_table as first_buffers}
use Rattle.flash_blocks.specs.declared.open_page.OpenPage.{OpenPage}

-- the pages, the write buffers, and the open page of each bucket, where it has one
pub record BlockTable : Type 0 where
  pub pages : PageTable
  pub buffers : BufferTable
  pub default : Option OpenPage
  pub compact : Option OpenPage

-- no page is opened, and every buffer is free
abbrev pub first_table : Geometry → BlockTable
first_table g = record {
  pages = first_pages g;
  buffers = first_buffers g.buffers g.buffer_size;
  default = None;
  compact = None;
}

-- the bucket's open page
abbrev pub open_page : BlockTable → Bucket → Option OpenPage
open_page t Default = t.default
open_page t Compact = t.compact

-- with this open page of the bucket
abbrev pub with_open_page : BlockTable → Bucket → Option OpenPage → BlockTable
with_open_page t Default page = record t { default = page }
with_open_page t Compact page = record t { compact = page }

-- the block of this buffer, where there is one
abbrev pub block_at : BufferTable → Option BufferId → Option Block
block_at buffers None = None
block_at buffers (Some id) = block_of buffers id.number

-- the open block of this page, where there is one
abbrev pub block_in : BufferTable → Option OpenPage → Option Block
block_in buffers None = None
block_in buffers (Some page) = block_at buffers page.buffer

-- the bucket's open block
abbrev pub open_block : BlockTable → Bucket → Option Block
open_block t bucket = block_in t.buffers (open_page t bucket)

-- how many bytes of records the block has
abbrev pub bytes_used : Option Block → ℕ
bytes_used None = 0
bytes_used (Some block) = length block.records

-- what stands for a page where there is none
abbrev pub no_page : OpenPage
no_page = record { label = record { page = 0; version = 0 }; used = 0; buffer = None }

-- the bucket's page; no_page where it has none
abbrev pub page_of : BlockTable → Bucket → OpenPage
page_of t bucket = unwrap_or (open_page t bucket) no_page

-- the offset of the block behind the used ones
abbrev pub block_offset : ℕ → OpenPage → ℕ
block_offset size page = page.used * size
