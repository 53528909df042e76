-- What a store over flash is, as its calls see it.
use Rattle.std.specs.Prelude.{◌≡◌, Bool, List, [], Option}
use Rattle.std.specs.FinMap as finite
use Rattle.flash_names.specs.Told.{with_more}
use Rattle.flash_names.specs.declared.geometry.Geometry.{Geometry}
use Rattle.flash_entry.specs.declared.entry.Entry.{Entry}
use Rattle.flash_blocks.specs.BlockTable.{BlockTable, first_table}
use Rattle.flash_machine.specs.Cache.{Cache}
use Rattle.flash_index.specs.KeyLists.{KeyLists, empty_lists}
use Rattle.flash_index.specs.Places.{Places}

-- what a store has beside the heads of its cache
pub record Desk : Type 0 where
  -- the three lists of the items' keys
  pub lists : KeyLists
  -- the place of each key's value that is on flash
  pub places : Places
  -- the pages, the write buffers and the open blocks
  pub blocks : BlockTable

-- the desk of a store without items
abbrev pub first_desk : Geometry → Desk
first_desk g = record { lists = empty_lists; places = finite.empty; blocks = first_table g }

-- a store by its geometry, its journal, the heads of its cache and its desk
pub record Store : Type 0 where
  pub geometry : Geometry
  -- the journal's entries, where it tells them
  pub told : Option (List Entry)
  -- whether the journal is sure to take the next note
  pub ready : Bool
  pub cache : Cache
  pub desk : Desk

-- what a call does: the entries that it notes, the cache and the desk that it leaves, and its answer
pub record Call (A : Type 0) : Type 0 where
  pub entries : List Entry
  pub cache : Cache
  pub desk : Desk
  pub answer : A

-- a call that notes nothing and changes nothing
abbrev pub idle_call : {A : Type 0} → Cache → Desk → A → Call A
idle_call c desk answer = record { entries = []; cache = c; desk = desk; answer = answer }

-- a store after a call: nothing else changes, but for whether the journal is ready
abbrev pub Becomes : {A : Type 0} → Store → Call A → Store → Type 0
Becomes old call new =
    new ≡ record old { told = with_more call.entries old.told; ready = new.ready; cache = call.cache; desk = call.desk }

-- a store that found no memory: nothing changes, but for whether the journal is ready
abbrev pub Stays : Store → Store → Type 0
Stays old new = new ≡ record old { ready = new.ready }
