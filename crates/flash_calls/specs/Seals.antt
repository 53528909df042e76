-- How a bucket's open block is sealed.
use Rattle.std.specs.Prelude.{Bool, []}
use Rattle.flash_pages.specs.declared.page_row.Bucket.{Bucket}
use Rattle.flash_blocks.specs.Calls.{seals, holds_record, table_after}
use Rattle.flash_machine.specs.Cache.{Cache}
use Rattle.flash_calls.specs.Store.{Desk, Call}

-- what sealing does: it answers whether the bucket's open block held a record
abbrev pub seal_call : Cache → Desk → Bucket → Call Bool
seal_call c desk bucket = record {
  entries = [];
  cache = c;
  desk = record desk { blocks = table_after (seals bucket) desk.blocks };
  answer = holds_record desk.blocks bucket;
}
