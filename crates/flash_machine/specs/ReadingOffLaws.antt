-- What an entry more makes of what is read off a journal.
use Rattle.std.specs.Prelude.{◌≡◌, ℕ, ◌||◌, List, [], ◌∷◌, ◌++◌, Some}
use Rattle.flash_names.specs.declared.place.Id.{Id}
use Rattle.flash_names.specs.declared.place.Label.{Label}
use Rattle.flash_names.specs.declared.geometry.Geometry.{Geometry}
use Rattle.flash_entry.specs.declared.entry.Entry.{Entry}
use Rattle.flash_machine.specs.Live.{ends, label_has_ended}
use Rattle.flash_machine.specs.ReadOff.{read_off}
use Rattle.flash_machine.specs.PageLabels.{label_step, page_label, version_step, last_version}
use Rattle.flash_machine.specs.Steps.{cache_of}
use Rattle.flash_machine.specs.Writes.{open_write_step, open_write, last_write_step, last_write, ends_good_write, has_good_write}
use Rattle.flash_machine.specs.Written.{byte_step, written}
use Rattle.flash_machine.specs.Lookups.{lookup_step, open_lookup, closing_of, closings, is_from_buffer, was_from_buffer}
use Rattle.flash_machine.specs.DeviceReads.{read_step, read_of}

-- whatever is read off as a state of this type: an entry more makes exactly its step
abbrev pub EachEntryMakesItsStep : Type 0 → Type 0
EachEntryMakesItsStep State =
    (step : State → Entry → State) (state : State) (h : List Entry) (e : Entry)
    → read_off step state (h ++ e ∷ []) ≡ step (read_off step state h) e

-- what an entry makes of bytes, writes, labels, versions, ends, reads and lookups, by its kind
pub record IsReadOff (g : Geometry) (h : List Entry) (e : Entry) : Type 0 where
  pub byte : (page offset : ℕ) → written page offset (h ++ e ∷ []) ≡ byte_step page offset (written page offset h) e
  pub write : open_write (h ++ e ∷ []) ≡ open_write_step (open_write h) e
  pub outcome : (label : Label) → last_write label (h ++ e ∷ []) ≡ last_write_step label (last_write label h) e
  pub good : (label : Label) (offset : ℕ)
      → has_good_write label offset (h ++ e ∷ []) ≡ (has_good_write label offset h || ends_good_write label offset e)
  pub label : (page : ℕ) → page_label page (h ++ e ∷ []) ≡ label_step page (page_label page h) e
  pub version : last_version (h ++ e ∷ []) ≡ version_step (last_version h) e
  pub ended : (label : Label)
      → label_has_ended (h ++ e ∷ []) (Some label) ≡ (label_has_ended h (Some label) || ends label e)
  pub read : (id : Id) → read_of id (h ++ e ∷ []) ≡ read_step id (read_of id h) e
  pub buffer : (id : Id) → was_from_buffer id (h ++ e ∷ []) ≡ (was_from_buffer id h || is_from_buffer id e)
  pub lookup : (id : Id) → open_lookup g id (h ++ e ∷ []) ≡ lookup_step id h (cache_of g h) (open_lookup g id h) e
  pub closed : closings g (h ++ e ∷ []) ≡ closings g h ++ closing_of g h e

-- an entry more makes of all that is read off exactly what its kind says
abbrev pub EachEntryIsReadOff : Type 0
EachEntryIsReadOff = (g : Geometry) (h : List Entry) (e : Entry) → IsReadOff g h e
