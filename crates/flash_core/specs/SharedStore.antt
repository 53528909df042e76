-- What a lock that threads take in turn has to know of a store.
use Rattle.std.specs.Prelude.{ℕ, List, [], Option, None, Some}
use Rattle.std.specs.List.{filter_map}
use Rattle.flash_names.specs.declared.geometry.Geometry.{Geometry}
use Rattle.flash_entry.specs.declared.entry.Entry.{Entry}
use Rattle.flash_entry.specs.declared.entry.Entry.TheVariants as entries
use Rattle.flash_machine.specs.Cache.{Cache}
use Rattle.flash_calls.specs.Store.{Store, Desk}

-- the story of a store: its journal's entries, where it tells them
abbrev pub told_of : Store → Option (List Entry)
told_of s = s.told

-- what no turn of the lock changes
abbrev pub geometry_of : Store → Geometry
geometry_of s = s.geometry

-- an entry that records a step, beside the number of the step's pass
abbrev pub step_pair : Entry → Option (ℕ × Entry)
step_pair (entries.Did id done) = Some (id.pass, entries.Did id done)
step_pair (entries.Looked id key look residence) = Some (id.pass, entries.Looked id key look residence)
step_pair _ = None

-- the entries that record steps, in order, each beside the number of its pass
abbrev pub step_pairs : List Entry → List (ℕ × Entry)
step_pairs journal = filter_map step_pair journal

-- those that a journal tells
abbrev pub told_pairs : Option (List Entry) → List (ℕ × Entry)
told_pairs None = []
told_pairs (Some journal) = step_pairs journal

-- what belongs to the passes: the entries of their steps
abbrev pub own_steps : Store → List (ℕ × Entry)
own_steps s = told_pairs s.told

-- the rest of a store
pub record Face : Type 0 where
  pub cache : Cache
  pub desk : Desk

abbrev pub face_of : Store → Face
face_of s = record { cache = s.cache; desk = s.desk }
