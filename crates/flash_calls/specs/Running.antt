-- What a store over flash keeps of its journal, of the heads of its cache, and of its desk.
use Rattle.std.specs.Prelude.{◌≡◌, List, ◌++◌}
use Rattle.flash_names.specs.declared.geometry.Geometry.{Geometry}
use Rattle.flash_entry.specs.declared.entry.Entry.{Entry}
use Rattle.flash_blocks.specs.InOrder.{IsInOrder}
use Rattle.flash_machine.specs.Cache.{Cache}
use Rattle.flash_machine.specs.Steps.{cache_of}
use Rattle.flash_heads.specs.KnownRun.{IsKnownRun}
use Rattle.flash_index.specs.Listed.{IsListed}
use Rattle.flash_calls.specs.Store.{Desk, Call}
use Rattle.flash_calls.specs.Placed.{ArePlaced, AreOpened}
use Rattle.flash_calls.specs.Paged.{ArePaged}
use Rattle.flash_calls.specs.Counted.{AreCounted}
use Rattle.flash_calls.specs.Held.{AreHeld, IsUnwritten}

-- the journal is a run that is known by these heads, and the desk is theirs: its lists have their keys, each moved
-- value has its place, whose label was opened, the pages are as the journal says and count the live records, and the
-- buffers, which have the geometry's size and are in order, hold these records, of which none was written
pub record IsRunning (g : Geometry) (h : List Entry) (c : Cache) (desk : Desk) : Type 0 where
  pub run : IsKnownRun g c h
  pub listed : IsListed c.items desk.lists
  pub placed : ArePlaced c.items desk.places
  pub opened : AreOpened h desk.places
  pub paged : ArePaged g h desk.blocks.pages
  pub counted : AreCounted c.items desk.blocks.pages
  pub order : IsInOrder desk.blocks
  pub size : desk.blocks.buffers.size ≡ g.buffer_size
  pub held : AreHeld (cache_of g h).items desk.places desk.blocks
  pub unwritten : IsUnwritten h

-- so it is with the journal that has the call's entries after it, the heads and the desk that the call leaves
abbrev pub LeavesARun : {A : Type 0} → Geometry → List Entry → Call A → Type 0
LeavesARun g h call = IsRunning g (h ++ call.entries) call.cache call.desk
