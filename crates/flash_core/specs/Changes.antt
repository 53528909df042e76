-- What the parts of a call make of the index and of the blocks.
use Rattle.std.specs.Prelude.{◌≡◌, ℕ, ℤ, Bool, true, false, List, Option, None, Some, if◌then◌else◌}
use Rattle.std.specs.FinMap.{get, insert, remove}
use Rattle.flash_entry.specs.declared.answer.Gone.{Gone}
use Rattle.flash_entry.specs.declared.answer.Gone.TheVariants as gone
use Rattle.flash_entry.specs.declared.entry.DropCause.{DropCause}
use Rattle.flash_items.specs.declared.item.Item as code
use Rattle.flash_blocks.specs.BlockTable.{BlockTable}
use Rattle.flash_machine.specs.Item.{Item}
use Rattle.flash_machine.specs.Cache.{Items}
use Rattle.flash_machine.specs.Looking.{deadline_after}
use Rattle.flash_index.specs.Known.{known_item}
use Rattle.flash_index.specs.IndexState.{IndexState}
use Rattle.flash_index.specs.KeyLists.{touched}
use Rattle.flash_calls.specs.Changes.{without_key, with_item}
use Rattle.flash_calls.specs.Store.{Desk}
use Rattle.flash_core.specs.declared.sought.Sought.{Sought}
use Rattle.flash_core.specs.declared.sought.Sought.TheVariants.{Absent, Leaving, Live}
use Rattle.flash_core.specs.Desks.{desk_of}

-- these items and this desk are left, and the memory
pub record AreLeft (memory : ℕ) (items : Items) (desk : Desk) (s : IndexState) (t : BlockTable) : Type 0 where
  pub items_are : s.items ≡ items
  pub desk_is : desk_of s t ≡ desk
  pub memory_is : s.memory ≡ memory

-- the items without the key's, where it is dropped for a cause
abbrev pub swept_items : Option DropCause → List ℕ → Items → Items
swept_items None key items = items
swept_items (Some cause) key items = remove items key

-- the desk without the key, where its item is dropped for a cause
abbrev pub swept_desk : Option DropCause → List ℕ → Desk → Desk
swept_desk None key desk = desk
swept_desk (Some cause) key desk = without_key key desk

-- the item after it was found at this moment
abbrev pub found_item : Option ℤ → ℕ → Item → Item
found_item renew moment item =
    record item { deadline = deadline_after renew item.deadline moment; fetched = true; access = moment }

-- the items with the key's as it is after it was found
abbrev pub with_found : Option ℤ → ℕ → List ℕ → Option Item → Items → Items
with_found renew moment key None items = items
with_found renew moment key (Some item) items = insert items key (found_item renew moment item)

-- the items after a lookup: one that is to be dropped is, and a live one is found
abbrev pub items_after_look : Option ℤ → ℕ → List ℕ → Sought → Items → Items
items_after_look renew moment key Absent items = items
items_after_look renew moment key (Leaving id cause) items = remove items key
items_after_look renew moment key (Live id) items = with_found renew moment key (get items key) items

-- the desk after a lookup
abbrev pub desk_after_look : List ℕ → Sought → Desk → Desk
desk_after_look key Absent desk = desk
desk_after_look key (Leaving id cause) desk = without_key key desk
desk_after_look key (Live id) desk = record desk { lists = touched key desk.lists }

-- the items after a store: the item that is stored is there, or one that is to be dropped is dropped
abbrev pub items_after_store : List ℕ → Option DropCause → Option code.Item → Items → Items
items_after_store key cause None items = swept_items cause key items
items_after_store key cause (Some item) items = insert items key (known_item item)

-- the desk after a store
abbrev pub desk_after_store : List ℕ → Option DropCause → Option code.Item → Desk → Desk
desk_after_store key cause None desk = swept_desk cause key desk
desk_after_store key cause (Some item) desk = with_item key (known_item item) desk

-- whether the key's item goes: it is to be dropped, or it is live and was deleted
abbrev pub is_going : Sought → Gone → Bool
is_going Absent answer = false
is_going (Leaving id cause) answer = true
is_going (Live id) gone.Deleted = true
is_going (Live id) gone.NotFound = false
is_going (Live id) gone.Exists = false

-- the items without the key's, where it goes
abbrev pub items_if_going : Bool → List ℕ → Items → Items
items_if_going goes key items = if goes then remove items key else items

-- the desk without the key, where its item goes
abbrev pub desk_if_going : Bool → List ℕ → Desk → Desk
desk_if_going goes key desk = if goes then without_key key desk else desk

-- the items with this deadline of the key's
abbrev pub with_renewed : Option ℕ → List ℕ → Option Item → Items → Items
with_renewed deadline key None items = items
with_renewed deadline key (Some item) items = insert items key (record item { deadline = deadline })

-- the items after a touch: one that is to be dropped is, and a live one has the deadline
abbrev pub items_after_touch : Option ℕ → List ℕ → Sought → Items → Items
items_after_touch deadline key Absent items = items
items_after_touch deadline key (Leaving id cause) items = remove items key
items_after_touch deadline key (Live id) items = with_renewed deadline key (get items key) items
