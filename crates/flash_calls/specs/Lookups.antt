-- What a lookup does.
use Rattle.std.specs.Prelude.{ℕ, ◌+◌, ◌-◌, Bool, List, [], ◌∷◌, ◌++◌, length, take, drop, Option, None, Some}
use Rattle.std.specs.Prelude.{if◌then◌else◌}
use Rattle.std.specs.Option.{option_map}
use Rattle.std.specs.FinMap as finite
use Rattle.flash_names.specs.declared.place.Id.{Id}
use Rattle.flash_names.specs.declared.place.Label.{Label}
use Rattle.flash_names.specs.declared.place.Place.{Place}
use Rattle.flash_entry.specs.declared.ask.Look.{Look}
use Rattle.flash_entry.specs.declared.found.Head.{Head}
use Rattle.flash_entry.specs.declared.entry.Close.TheVariants as closes
use Rattle.flash_entry.specs.declared.entry.Entry.{Entry}
use Rattle.flash_entry.specs.declared.entry.Entry.TheVariants as entries
use Rattle.flash_buffers.specs.BufferTable.{BufferTable, read_of}
use Rattle.flash_machine.specs.Item.{Item}
use Rattle.flash_machine.specs.Cache.{Cache}
use Rattle.flash_machine.specs.Looking.{residence_of, look_next, head_of_item}
use Rattle.flash_index.specs.KeyLists.{touched}
use Rattle.flash_calls.specs.declared.found.Found.{Found}
use Rattle.flash_calls.specs.declared.found.Found.TheVariants as found
use Rattle.flash_calls.specs.Store.{Desk, Call}
use Rattle.flash_calls.specs.Sweeps.{sweep}

-- the value in the bytes of a record whose key has so many bytes: 28 bytes of numbers and the key are in front of it,
-- and a checksum of 4 bytes is behind it
abbrev pub value_in : ℕ → List ℕ → List ℕ
value_in key_length bytes = take (length bytes - (32 + key_length)) (drop (28 + key_length) bytes)

-- a value in a write buffer, and the place of its record
pub record Buffered : Type 0 where
  pub place : Place
  pub value : List ℕ

-- the value that the buffers hold, of a key of so many bytes whose record has a place
abbrev pub buffered_at : BufferTable → ℕ → Option Place → Option Buffered
buffered_at t key_length None = None
buffered_at t key_length (Some place) =
    option_map (λ bytes. record { place = place; value = value_in key_length bytes }) (read_of t place)

-- the key's value, where the buffers hold it
abbrev pub buffered : Desk → List ℕ → Option Buffered
buffered desk key = buffered_at desk.blocks.buffers (length key) (finite.get desk.places key)

-- what a lookup answers, and what it notes after what it found
pub record Reading : Type 0 where
  pub answer : Found
  pub entries : List Entry

-- an answer with nothing more to note
abbrev pub plain : Found → Reading
plain answer = record { answer = answer; entries = [] }

-- the lookup of a value on flash: it is closed at once where a buffer holds the value, and else it stays open
abbrev pub reading_away : Id → Item → Head → Option Buffered → Reading
reading_away id item head None = plain (found.Away head)
reading_away id item head (Some held) = record {
  answer = found.Here (record { head = head; value = held.value });
  entries = entries.FromBuffer id held.place ∷ entries.Closed id (closes.Hit item.flags item.cas held.value) ∷ [];
}

-- the lookup of a value that is wanted, which is in memory or has a label
abbrev pub reading_at : Id → Item → Head → Option Label → Option Buffered → Reading
reading_at id item head None held = plain (found.Here (record { head = head; value = item.value }))
reading_at id item head (Some label) held = reading_away id item head held

-- the lookup by the live item under the key
abbrev pub reading_of : Cache → Desk → Id → List ℕ → Look → Option Item → Reading
reading_of c desk id key look None = plain found.Miss
reading_of c desk id key look (Some item) =
    if look.value then reading_at id item (head_of_item c look item) item.label (buffered desk key)
    else plain (found.Head (head_of_item c look item))

-- the desk after a lookup: a found item's key is active where it is
abbrev pub desk_after_look : List ℕ → Option Item → Desk → Desk
desk_after_look key None desk = desk
desk_after_look key (Some item) desk = record desk { lists = touched key desk.lists }

-- a lookup after the sweep
abbrev pub look_after_sweep : Call Bool → Id → List ℕ → Look → Call Found
look_after_sweep swept id key look =
    let live = finite.get swept.cache.items key in
    let reading = reading_of swept.cache swept.desk id key look live in record {
      entries = swept.entries ++ entries.Looked id key look (residence_of live) ∷ reading.entries;
      cache = look_next swept.cache key look live;
      desk = desk_after_look key live swept.desk;
      answer = reading.answer;
    }

-- what a lookup does: it sweeps its key, and then looks it up
abbrev pub look_call : Cache → Desk → Id → List ℕ → Look → Call Found
look_call c desk id key look = look_after_sweep (sweep c desk key) id key look

-- what a lookup tells by a live item whose value is known
abbrev pub found_of : Cache → Look → Option Item → Found
found_of c look None = found.Miss
found_of c look (Some item) =
    let head = head_of_item c look item in
    if look.value then found.Here (record { head = head; value = item.value }) else found.Head head
