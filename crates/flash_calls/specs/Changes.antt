-- What a command does with the item under its key, and what the desk is after it.
use Rattle.std.specs.Prelude.{ℕ, List, Option, None, Some}
use Rattle.std.specs.FinMap as finite
use Rattle.flash_lru.specs.declared.segment.Segment.TheVariants.{Hot}
use Rattle.flash_machine.specs.Item.{Item}
use Rattle.flash_machine.specs.Load.{item_load}
use Rattle.flash_index.specs.KeyLists.{moved, removed}
use Rattle.flash_calls.specs.Places.{given_back}
use Rattle.flash_calls.specs.Store.{Desk}

-- it leaves the item's value where it is, it stores a value in memory, or it takes the item out
pub data Change : Type 0 where
  leaves : Change
  stores : Change
  drops : Change

-- the desk without the key, whose place is given back where it has one
abbrev pub without_key : List ℕ → Desk → Desk
without_key key desk = record {
  lists = removed key desk.lists;
  places = finite.remove desk.places key;
  blocks = given_back (finite.get desk.places key) desk.blocks;
}

-- the desk with this item, whose value is in memory: its key is at HOT's front, and its place is given back where it
-- had one
abbrev pub with_item : List ℕ → Item → Desk → Desk
with_item key item desk = record {
  lists = moved Hot key (item_load key item) desk.lists;
  places = finite.remove desk.places key;
  blocks = given_back (finite.get desk.places key) desk.blocks;
}

-- the same, where there is an item
abbrev pub with_stored : List ℕ → Option Item → Desk → Desk
with_stored key None desk = desk
with_stored key (Some item) desk = with_item key item desk

-- the desk after a change, by the item that is then under the key
abbrev pub desk_after : Change → List ℕ → Option Item → Desk → Desk
desk_after leaves key now desk = desk
desk_after stores key now desk = with_stored key now desk
desk_after drops key now desk = without_key key desk
