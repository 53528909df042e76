-- How one value is moved to flash.
use Rattle.std.specs.Prelude.{ℕ, List, [], ◌∷◌, ◌++◌, Option, None, Some, Result, Ok, Err}
use Rattle.std.specs.FinMap as finite
use Rattle.flash_names.specs.declared.geometry.Geometry.{Geometry}
use Rattle.flash_names.specs.declared.place.Label.{Label}
use Rattle.flash_entry.specs.declared.entry.Entry.{Entry}
use Rattle.flash_entry.specs.declared.entry.Entry.TheVariants as entries
use Rattle.flash_pages.specs.declared.page_row.Bucket.{Bucket}
use Rattle.flash_pages.specs.declared.page_row.Bucket.TheVariants.{Default}
use Rattle.flash_blocks.specs.declared.answers.Put.{Put}
use Rattle.flash_blocks.specs.declared.answers.Full.{Full}
use Rattle.flash_blocks.specs.declared.answers.Full.TheVariants as full
use Rattle.flash_blocks.specs.Calls.{puts, length_of, put_answer, table_after}
use Rattle.flash_machine.specs.Item.{moved_head, Item}
use Rattle.flash_machine.specs.Cache.{Cache}
use Rattle.flash_machine.specs.Load.{item_load}
use Rattle.flash_heads.specs.Moves.{with_head}
use Rattle.flash_index.specs.declared.move_rule.MoveRule.{MoveRule}
use Rattle.flash_index.specs.KeyLists.{resized}
use Rattle.flash_index.specs.NextToMove.{next_key_to_move}
use Rattle.flash_calls.specs.declared.move_step.MoveStep.{MoveStep}
use Rattle.flash_calls.specs.declared.move_step.MoveStep.TheVariants as steps
use Rattle.flash_calls.specs.Store.{Desk, Call, idle_call}

-- which items may be moved: live ones of at least `item_size` bytes whose record fits in a write buffer
abbrev pub move_rule : Geometry → Cache → MoveRule
move_rule g c = record { moment = c.now; flush_mark = c.flush_mark; least = g.item_size; most = g.buffer_size }

-- the entry of a page that was opened, where one was
abbrev pub entries_of_opening : Option Label → List Entry
entries_of_opening None = []
entries_of_opening (Some label) = entries.Opened label ∷ []

-- the desk after the item's record was put at its place
abbrev pub desk_after_move : Bucket → List ℕ → Item → Put → Desk → Desk
desk_after_move bucket key item put desk = record {
  lists = resized key (item_load key (moved_head put.place.label item)) desk.lists;
  places = finite.insert desk.places key put.place;
  blocks = table_after (puts bucket key item.flags item.cas item.value) desk.blocks;
}

-- the item's value moves to where its record was put
abbrev pub moved_to : Cache → Desk → Bucket → List ℕ → Item → Put → Call MoveStep
moved_to c desk bucket key item put = record {
  entries = entries_of_opening put.opened ++ entries.Moved key item.cas put.place.label ∷ [];
  cache = with_head c key (moved_head put.place.label item);
  desk = desk_after_move bucket key item put desk;
  answer = steps.Moved;
}

-- the answer where the record isn't put
abbrev pub not_moved : Full → MoveStep
not_moved full.NoBuffer = steps.NoBuffer
not_moved full.NoPage = steps.NoPage

-- the item is moved where its record can be put
abbrev pub move_where : Cache → Desk → Bucket → List ℕ → Item → Result Put Full → Call MoveStep
move_where c desk bucket key item (Ok put) = moved_to c desk bucket key item put
move_where c desk bucket key item (Err why) = idle_call c desk (not_moved why)

-- the item under the key is moved, where there is one
abbrev pub move_item : Cache → Desk → Bucket → List ℕ → Option Item → Call MoveStep
move_item c desk bucket key None = idle_call c desk steps.Idle
move_item c desk bucket key (Some item) =
    move_where c desk bucket key item (put_answer desk.blocks bucket (length_of key item.value))

-- the item of this key is moved, where there is a key
abbrev pub move_key : Cache → Desk → Option (List ℕ) → Call MoveStep
move_key c desk None = idle_call c desk steps.Idle
move_key c desk (Some key) = move_item c desk Default key (finite.get c.items key)

-- what a move does
abbrev pub move_call : Geometry → Cache → Desk → Call MoveStep
move_call g c desk = move_key c desk (next_key_to_move (move_rule g c) c.items desk.lists)
