-- What the drop of an item leaves, which keeps a store within its memory.
use Rattle.std.specs.Prelude.{◌≡◌, List, [], ◌∷◌, Option, None, Some}
use Rattle.std.specs.FinMap.{remove}
use Rattle.flash_names.specs.Told.{with_more}
use Rattle.flash_entry.specs.declared.entry.Entry.{Entry}
use Rattle.flash_entry.specs.declared.entry.Entry.TheVariants as entries
use Rattle.flash_blocks.specs.BlockTable.{BlockTable}
use Rattle.flash_machine.specs.Cache.{Items}
use Rattle.flash_index.specs.IndexState.{IndexState, Names}
use Rattle.flash_calls.specs.Changes.{without_key}
use Rattle.flash_calls.specs.Rooms.{Leaver}
use Rattle.flash_calls.specs.Store.{Desk}
use Rattle.flash_core.specs.declared.room.Leaver as code
use Rattle.flash_core.specs.Changes.{AreLeft}
use Rattle.flash_core.specs.Desks.{desk_of}

-- the item is that of the key, and is dropped for the same cause
pub record IsLeaver (s : IndexState) (one : code.Leaver) (leaver : Leaver) : Type 0 where
  pub named : Names s one.id leaver.key
  pub cause : one.cause ≡ leaver.cause

-- it is, or there is none of both
abbrev pub AreLeavers : IndexState → Option code.Leaver → Option Leaver → Type 0
AreLeavers s None None = Unit {0}
AreLeavers s (Some one) (Some leaver) = IsLeaver s one leaver
AreLeavers s None (Some leaver) = ⊥
AreLeavers s (Some one) None = ⊥

-- the entry of an item that is dropped, where there is one
abbrev pub entries_of_drop : Option Leaver → List Entry
entries_of_drop None = []
entries_of_drop (Some leaver) = entries.Dropped leaver.key leaver.cause ∷ []

-- the items without the leaver's, where there is one
abbrev pub items_without : Option Leaver → Items → Items
items_without None items = items
items_without (Some leaver) items = remove items leaver.key

-- the desk without the leaver's key, where there is one
abbrev pub desk_without : Option Leaver → Desk → Desk
desk_without None desk = desk
desk_without (Some leaver) desk = without_key leaver.key desk

-- what the drop of the leaver's item leaves of the journal, of the index and of the blocks, where there is one
pub record HasDropped (leaver : Option Leaver) (told told_after : Option (List Entry)) (s : IndexState)
    (t : BlockTable) (s_after : IndexState) (t_after : BlockTable) : Type 0 where
  pub noted : told_after ≡ with_more (entries_of_drop leaver) told
  pub left : AreLeft s.memory (items_without leaver s.items) (desk_without leaver (desk_of s t)) s_after t_after
