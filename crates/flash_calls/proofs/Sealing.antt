-- What a store keeps goes on by the sealing of a block.
use Rattle.std.proofs.Common.{◌≡◌, Bool, true, false, List, length, if◌then◌else◌, Option, None, Some, refl, sym, subst}
use Rattle.flash_names.specs.declared.geometry.Geometry.{Geometry}
use Rattle.flash_entry.specs.declared.entry.Entry.{Entry}
use Rattle.flash_pages.specs.declared.page_row.Bucket.{Bucket}
use Rattle.flash_pages.specs.declared.page_row.Bucket.TheVariants.{Default, Compact}
use Rattle.flash_pages.specs.PageTable.{PageTable}
use Rattle.flash_blocks.specs.declared.open_page.OpenPage.{OpenPage}
use Rattle.flash_blocks.specs.BlockTable.{BlockTable, open_page}
use Rattle.flash_blocks.specs.Calls.{seals, with_closed, with_block_sealed, holds_record}
use Rattle.flash_machine.specs.Cache.{Cache}
use Rattle.flash_calls.specs.Below.{Below}
use Rattle.flash_calls.specs.Counted.{AreCounted}
use Rattle.flash_calls.specs.Held.{parts_of}
use Rattle.flash_calls.specs.Running.{IsRunning, LeavesARun}
use Rattle.flash_calls.specs.Seals.{seal_call}
use Rattle.flash_calls.specs.Store.{Desk}
use Rattle.flash_calls.proofs.Paging.{row_at, SamePages}
use Rattle.flash_calls.proofs.Running.{leaves_a_run}

-- the pages are as they were
closed_pages : (t : BlockTable) (bucket : Bucket) (page : Option OpenPage) → (with_closed t bucket page).pages ≡ t.pages
closed_pages t bucket None = refl
closed_pages t Default (Some page) = refl
closed_pages t Compact (Some page) = refl

seal_pages : (t : BlockTable) (bucket : Bucket) (holds : Bool) → (if holds then with_block_sealed t bucket else t).pages ≡ t.pages
seal_pages t bucket true = closed_pages t bucket (open_page t bucket)
seal_pages t bucket false = refl

pub same_pages : (t new : PageTable) → new ≡ t → SamePages t new
same_pages t new same = record {
  rows = λ j. length (same j).rows;
  last = λ j. (same j).last_version;
  state = λ page. λ j. (row_at (same j) page).state;
  version = λ page. λ j. (row_at (same j) page).version;
}

pub seal_runs : (below : Below) (g : Geometry) (h : List Entry) (c : Cache) (desk : Desk) (bucket : Bucket) → IsRunning g h c desk → LeavesARun g h (seal_call c desk bucket)
seal_runs below g h c desk bucket was =
    let pages = seal_pages desk.blocks bucket (holds_record desk.blocks bucket) in
    let call = seal_call c desk bucket in
    leaves_a_run below.heads.known below.heads.head g h c desk call was (record {
      goes = record { legal = tt; makes = refl };
      quiet = tt;
      stands = record {
        listed = was.listed;
        placed = was.placed;
        counted = subst (λ (t : PageTable). AreCounted c.items t) (sym pages) was.counted;
        order = below.blocks.order desk.blocks (seals bucket) tt tt was.order;
      };
      leaves = record {
        fewer = λ key place there. there;
        keeps = λ key item place held. below.blocks.stays desk.blocks (seals bucket) place (parts_of key item place) tt held;
        size = (below.blocks.sizes desk.blocks (seals bucket)).block;
        pages = same_pages desk.blocks.pages call.desk.blocks.pages pages;
      };
    })
