-- What a lookup tells of an item, by its parts.
use Rattle.std.proofs.Common.{◌≡◌, ℕ, Bool, true, false, List, [], length, Option, None, Some, if◌then◌else◌, refl, subst}
use Rattle.std.specs.Option.{ForSome, option_map}
use Rattle.std.specs.FinMap as finite
use Rattle.flash_names.specs.declared.place.Id.{Id}
use Rattle.flash_names.specs.declared.place.Place.{Place}
use Rattle.flash_entry.specs.declared.ask.Look.{Look}
use Rattle.flash_entry.specs.declared.found.Head.{Head}
use Rattle.flash_items.specs.declared.item.Body.{Body}
use Rattle.flash_items.specs.declared.item.Body.TheVariants.{Here, Away}
use Rattle.flash_items.specs.declared.item.Parts.{Parts}
use Rattle.flash_blocks.specs.BlockTable.{BlockTable}
use Rattle.flash_buffers.specs.BufferTable.{read_of}
use Rattle.flash_machine.specs.Item.{Item}
use Rattle.flash_machine.specs.Cache.{Cache}
use Rattle.flash_machine.specs.Looking.{head_of_item}
use Rattle.flash_index.specs.IndexState.{IndexState}
use Rattle.flash_index.specs.Known.{known_parts, label_of}
use Rattle.flash_index.specs.Places.{place_of}
use Rattle.flash_calls.specs.Lookups.{Reading, value_in, buffered_at, buffered, plain, reading_away, reading_at, reading_of}
use Rattle.flash_calls.specs.declared.found.Found.{Found}
use Rattle.flash_calls.specs.declared.found.Found.TheVariants as found
use Rattle.flash_core.specs.Desks.{desk_of}
use Rattle.flash_core.specs.Items.{known_live}
use Rattle.flash_core.specs.Reading.{bytes_at, found_with, found_in, place_live, entries_of_place}

module _ (c : Cache) (s : IndexState) (t : BlockTable) (id : Id) (key : List ℕ) (look : Look) where
  -- the answer, and what is noted by the place of the value, are those of a lookup
  pub record TellsAs (place : Option Place) (answer : Found) (reading : Reading) : Type 0 where
    pub answer_is : answer ≡ reading.answer
    pub entries_are : entries_of_place id place answer ≡ reading.entries

  -- the item with another body
  abbrev item_with : Parts → Body → Item
  item_with one body = known_parts (length key) (record one { body = body })

  abbrev head_with : Parts → Body → Head
  head_with one body = head_of_item c look (item_with one body)

  -- a value on flash, whose bytes a buffer has or hasn't
  tells_read : (one : Parts) (place : Place) (read : Option (List ℕ))
      → TellsAs (Some place) (found_with (head_with one (Away place)) (option_map (λ bytes. value_in (length key) bytes) read))
      (reading_away id (item_with one (Away place)) (head_with one (Away place)) (option_map (λ bytes. record { place = place; value = value_in (length key) bytes }) read))
  tells_read one place None = record { answer_is = refl; entries_are = refl }
  tells_read one place (Some bytes) = record { answer_is = refl; entries_are = refl }

  -- a value that is wanted
  tells_wanted : (one : Parts) (body : Body) → place_of body ≡ finite.get s.places key
      → TellsAs (place_of body) (found_with (head_with one body) (bytes_at t.buffers (length key) body))
      (reading_at id (item_with one body) (head_with one body) (label_of body) (buffered (desk_of s t) key))
  tells_wanted one (Here value) at = record { answer_is = refl; entries_are = refl }
  tells_wanted one (Away place) at =
      subst (λ (p : Option Place).
      TellsAs (Some place) (found_with (head_with one (Away place)) (bytes_at t.buffers (length key) (Away place)))
      (reading_away id (item_with one (Away place)) (head_with one (Away place)) (buffered_at t.buffers (length key) p))) at
      (tells_read one place (read_of t.buffers place))

  -- a value that isn't
  tells_unwanted : (place : Option Place) (head : Head) → TellsAs place (found.Head head) (plain (found.Head head))
  tells_unwanted None head = record { answer_is = refl; entries_are = refl }
  tells_unwanted (Some place) head = record { answer_is = refl; entries_are = refl }

  tells_by : (one : Parts) → place_of one.body ≡ finite.get s.places key → (wanted : Bool)
      → let item = known_parts (length key) one in let head = head_of_item c look item in
      TellsAs (place_of one.body) (if wanted then found_with head (bytes_at t.buffers (length key) one.body) else found.Head head)
      (if wanted then reading_at id item head item.label (buffered (desk_of s t) key) else plain (found.Head head))
  tells_by one at true = tells_wanted one one.body at
  tells_by one at false = tells_unwanted (place_of one.body) (head_of_item c look (known_parts (length key) one))

  pub tells : (parts : Option Parts) → ForSome parts (λ one. place_of one.body ≡ finite.get s.places key)
      → TellsAs (place_live parts) (found_in c t.buffers key look parts) (reading_of c (desk_of s t) id key look (known_live key parts))
  tells None at = record { answer_is = refl; entries_are = refl }
  tells (Some one) at = tells_by one (at one refl) look.value
