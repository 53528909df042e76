-- What each call keeps, and what a put does.
use Rattle.std.specs.Prelude.{◌≡◌, ℕ, ◌≤◌, List, Some, Ok}
use Rattle.flash_names.specs.declared.geometry.Geometry.{Geometry}
use Rattle.flash_names.specs.declared.place.Label.{Label}
use Rattle.flash_names.specs.declared.place.Place.{Place}
use Rattle.flash_names.specs.Geometry.{Passes}
use Rattle.flash_record.specs.Record.{Parts, record_bytes}
use Rattle.flash_pages.specs.declared.page_row.Bucket.{Bucket}
use Rattle.flash_pages.specs.declared.pages.Opened.TheVariants.{Page}
use Rattle.flash_pages.specs.Opening.{next_opening}
use Rattle.flash_buffers.specs.BufferTable.{read_of}
use Rattle.flash_blocks.specs.declared.answers.Put.{Put}
use Rattle.flash_blocks.specs.BlockTable.{BlockTable, first_table}
use Rattle.flash_blocks.specs.Calls.{Call, Allowed, table_after, put_answer, length_of}
use Rattle.flash_blocks.specs.Held.{IsHeld, IsInOne, FreesNone}
use Rattle.flash_blocks.specs.InOrder.{IsInOrder}
use Rattle.flash_blocks.specs.Puts.{pages_opened, IsPut}

-- a record is held after each call that frees no buffer
abbrev pub EachRecordStays : Type 0
EachRecordStays =
    (t : BlockTable) (call : Call) (place : Place) (p : Parts) → FreesNone call → IsHeld t place p
    → IsHeld (table_after call t) place p

-- where a byte of a label is in one buffer at most, a record that is held is read
abbrev pub EachRecordIsRead : Type 0
EachRecordIsRead =
    (t : BlockTable) (place : Place) (p : Parts) → IsInOne t.buffers → IsHeld t place p
    → read_of t.buffers place ≡ Some (record_bytes p)

-- the first table of a geometry is in order
abbrev pub TheFirstIsInOrder : Type 0
TheFirstIsInOrder = (g : Geometry) → Passes g → IsInOrder (first_table g)

-- a table stays in order through each call that frees no buffer
abbrev pub EachCallKeepsOrder : Type 0
EachCallKeepsOrder =
    (t : BlockTable) (call : Call) → Allowed t call → FreesNone call → IsInOrder t → IsInOrder (table_after call t)

-- a table stays in order where the bucket's next page is opened
abbrev pub EachOpeningKeepsOrder : Type 0
EachOpeningKeepsOrder =
    (t : BlockTable) (bucket : Bucket) (label : Label) → next_opening t.pages bucket ≡ Page label → IsInOrder t
    → IsInOrder (record t { pages = pages_opened bucket (Some label) t.pages })

-- a byte of a label stays in one buffer at most through each call
abbrev pub EachCallKeepsOne : Type 0
EachCallKeepsOne =
    (t : BlockTable) (call : Call) → Allowed t call → IsInOrder t → IsInOne (table_after call t).buffers

-- the sizes of blocks and of pages are as before
pub record HasSizesOf (t new : BlockTable) : Type 0 where
  pub block : new.buffers.size ≡ t.buffers.size
  pub page : new.pages.page_size ≡ t.pages.page_size

-- each call leaves them so
abbrev pub EachCallKeepsSizes : Type 0
EachCallKeepsSizes = (t : BlockTable) (call : Call) → HasSizesOf t (table_after call t)

-- a record that is put is held at its place and counted there
abbrev pub EachPutIsHeld : Type 0
EachPutIsHeld =
    (t : BlockTable) (bucket : Bucket) (key : List ℕ) (flags cas : ℕ) (value : List ℕ) (put : Put) → IsInOrder t
    → length_of key value ≤ t.buffers.size → put_answer t bucket (length_of key value) ≡ Ok put
    → IsPut t bucket key flags cas value put
