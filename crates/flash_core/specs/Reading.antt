-- What a lookup tells of the parts of the item that it found.
use Rattle.std.specs.Prelude.{ℕ, List, [], ◌∷◌, length, Option, None, Some, if◌then◌else◌}
use Rattle.std.specs.Option.{option_map}
use Rattle.flash_names.specs.declared.place.Id.{Id}
use Rattle.flash_names.specs.declared.place.Place.{Place}
use Rattle.flash_entry.specs.declared.ask.Look.{Look}
use Rattle.flash_entry.specs.declared.found.Head.{Head}
use Rattle.flash_entry.specs.declared.entry.Close.TheVariants as closes
use Rattle.flash_entry.specs.declared.entry.Entry.{Entry}
use Rattle.flash_entry.specs.declared.entry.Entry.TheVariants as entries
use Rattle.flash_items.specs.declared.item.Body.{Body}
use Rattle.flash_items.specs.declared.item.Body.TheVariants.{Here, Away}
use Rattle.flash_items.specs.declared.item.Parts.{Parts}
use Rattle.flash_buffers.specs.BufferTable.{BufferTable, read_of}
use Rattle.flash_machine.specs.Cache.{Cache}
use Rattle.flash_machine.specs.Looking.{head_of_item}
use Rattle.flash_index.specs.Known.{known_parts}
use Rattle.flash_index.specs.Places.{place_of}
use Rattle.flash_calls.specs.Lookups.{value_in}
use Rattle.flash_calls.specs.declared.found.Found.{Found}
use Rattle.flash_calls.specs.declared.found.Found.TheVariants as found

-- the bytes of a value that is in memory, or that the buffers hold
abbrev pub bytes_at : BufferTable → ℕ → Body → Option (List ℕ)
bytes_at t key_length (Here value) = Some value
bytes_at t key_length (Away place) = option_map (λ bytes. value_in key_length bytes) (read_of t place)

-- what is told of an item whose value is wanted, by the bytes that there are
abbrev pub found_with : Head → Option (List ℕ) → Found
found_with head None = found.Away head
found_with head (Some value) = found.Here (record { head = head; value = value })

-- what is told of the live item, by its parts
abbrev pub found_in : Cache → BufferTable → List ℕ → Look → Option Parts → Found
found_in c t key look None = found.Miss
found_in c t key look (Some parts) =
    let head = head_of_item c look (known_parts (length key) parts) in
    if look.value then found_with head (bytes_at t (length key) parts.body) else found.Head head

-- the place of the live item's value, where it is on flash
abbrev pub place_live : Option Parts → Option Place
place_live None = None
place_live (Some parts) = place_of parts.body

-- what is noted of a value at a place that was found
abbrev pub entries_at : Id → Place → Found → List Entry
entries_at id place (found.Here hit) =
    entries.FromBuffer id place ∷ entries.Closed id (closes.Hit hit.head.flags hit.head.cas hit.value) ∷ []
entries_at id place found.Miss = []
entries_at id place (found.Head head) = []
entries_at id place (found.Away head) = []

-- what is noted of a value that was read from a write buffer
abbrev pub entries_of_place : Id → Option Place → Found → List Entry
entries_of_place id None answer = []
entries_of_place id (Some place) answer = entries_at id place answer

abbrev pub entries_of_buffer : Id → Option Parts → Found → List Entry
entries_of_buffer id live answer = entries_of_place id (place_live live) answer
