-- Where a record of a length is put.
use Rattle.std.specs.Prelude.{ℕ, ◌+◌, Bool, false, is_none, is_some, nat_le, Option, None, Some, if◌then◌else◌}
use Rattle.flash_pages.specs.declared.page_row.Bucket.{Bucket}
use Rattle.flash_pages.specs.declared.pages.Opened.{Opened}
use Rattle.flash_pages.specs.declared.pages.Opened.TheVariants.{Page, NoPage as NoneOpened}
use Rattle.flash_pages.specs.Opening.{next_opening}
use Rattle.flash_buffers.specs.Block.{Block, fits_in}
use Rattle.flash_buffers.specs.BufferTable.{first_free}
use Rattle.flash_blocks.specs.declared.open_page.OpenPage.{OpenPage}
use Rattle.flash_blocks.specs.declared.answers.Room.{Room}
use Rattle.flash_blocks.specs.declared.answers.Room.TheVariants.{Here, Next, Opens, NoBuffer, NoPage}
use Rattle.flash_blocks.specs.BlockTable.{BlockTable, open_page, open_block, block_offset}

-- whether a record of n bytes fits in the rest of this block
abbrev pub fits_block : ℕ → ℕ → Option Block → Bool
fits_block size n None = false
fits_block size n (Some block) = fits_in size n block

-- whether it fits in the bucket's open block
abbrev pub fits_here : BlockTable → Bucket → ℕ → Bool
fits_here t bucket n = fits_block t.buffers.size n (open_block t bucket)

-- the page after its open block, where it has one, is used up
abbrev pub closed : OpenPage → OpenPage
closed page = record page { used = page.used + (if is_some page.buffer then 1 else 0); buffer = None }

-- whether a block of this size fits in a page of so many bytes, behind the used ones and the open one
abbrev pub has_next_in : ℕ → ℕ → Option OpenPage → Bool
has_next_in size page_size None = false
has_next_in size page_size (Some page) = nat_le (block_offset size (closed page) + size) page_size

-- whether the bucket's page has a further block
abbrev pub has_next : BlockTable → Bucket → Bool
has_next t bucket = has_next_in t.buffers.size t.pages.page_size (open_page t bucket)

-- the room in a page that would be opened
abbrev pub room_of : Opened → Room
room_of NoneOpened = NoPage
room_of (Page label) = Opens label

-- where a record of n bytes is put: in the open block, where it fits; else, where a buffer is free, in the next
-- block of the page, or in the first one of a page that is opened
abbrev pub room : BlockTable → Bucket → ℕ → Room
room t bucket n =
    if fits_here t bucket n then Here
    else if is_none (first_free t.buffers) then NoBuffer
    else if has_next t bucket then Next
    else room_of (next_opening t.pages bucket)
