-- What is under a key.
use Rattle.std.specs.Prelude.{◌≡◌, ℕ, List, Option, None, Some, option_map}
use Rattle.std.specs.FinMap.{get}
use Rattle.flash_names.specs.declared.place.ItemId.{ItemId}
use Rattle.flash_entry.specs.declared.entry.DropCause.{DropCause}
use Rattle.flash_blocks.specs.BlockTable.{BlockTable}
use Rattle.flash_machine.specs.Item.{Item}
use Rattle.flash_machine.specs.Cache.{Cache}
use Rattle.flash_index.specs.IndexState.{IndexState}
use Rattle.flash_calls.specs.Sweeps.{sweep_cause}
use Rattle.flash_core.specs.declared.sought.Sought.{Sought}
use Rattle.flash_core.specs.declared.sought.Sought.TheVariants.{Absent, Leaving, Live}
use Rattle.flash_core.specs.Desks.{desk_of}

-- the id of what is there
abbrev pub id_sought : Sought → Option ItemId
id_sought Absent = None
id_sought (Leaving id cause) = Some id
id_sought (Live id) = Some id

-- why what is there is to be dropped, if it is
abbrev pub cause_sought : Sought → Option DropCause
cause_sought Absent = None
cause_sought (Leaving id cause) = Some cause
cause_sought (Live id) = None

-- the key's item, where it is live
abbrev pub live_of : Sought → Option Item → Option Item
live_of Absent item = None
live_of (Leaving id cause) item = None
live_of (Live id) item = item

-- This is what is under the key: the id is that of its item, which is to be dropped for the cause of a sweep or isn't
pub record IsSought (s : IndexState) (t : BlockTable) (c : Cache) (key : List ℕ) (sought : Sought) : Type 0 where
  pub id : option_map (λ id. id.key) (id_sought sought) ≡ get s.ids key
  pub there : (id : ItemId) → id_sought sought ≡ Some id → (item : Item) × (get c.items key ≡ Some item)
  pub absent : sought ≡ Absent → get c.items key ≡ None
  pub cause : cause_sought sought ≡ sweep_cause c (desk_of s t) key
