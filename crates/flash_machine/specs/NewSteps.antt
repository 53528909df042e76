-- The numbers of steps: those of one pass rise.
use Rattle.std.specs.Prelude.{◌≡◌, ◌<◌, Bool, false, ◌&&◌, not, nat_eq, nat_le, nat_lt, List, Option, None, Some}
use Rattle.std.specs.List.{AllByRecursion, list_any}
use Rattle.flash_names.specs.declared.place.Id.{Id}
use Rattle.flash_entry.specs.declared.entry.Entry.{Entry}
use Rattle.flash_entry.specs.declared.entry.Entry.TheVariants as entries

-- the number of the step that an entry records, if it records one
abbrev pub step_id : Entry → Option Id
step_id (entries.Did id done) = Some id
step_id (entries.Looked id key look residence) = Some id
step_id _ = None

-- whether a step is of the same pass and its number isn't smaller
abbrev pub is_as_late : Id → Option Id → Bool
is_as_late id None = false
is_as_late id (Some other) = nat_eq other.pass id.pass && nat_le id.seq other.seq

-- whether the pass isn't 0, and its earlier steps have smaller numbers
abbrev pub is_new_step : List Entry → Id → Bool
is_new_step journal id = nat_lt 0 id.pass && not (list_any (λ e. is_as_late id (step_id e)) journal)

-- a step of the same pass has a smaller number
abbrev pub IsEarlier : Id → Option Id → Type 0
IsEarlier id None = Unit {0}
IsEarlier id (Some earlier) = earlier.pass ≡ id.pass → earlier.seq < id.seq

-- the pass isn't 0, and its earlier steps have smaller numbers: what `is_new_step` tests
pub record IsNew (journal : List Entry) (id : Id) : Type 0 where
  pub pass : 0 < id.pass
  pub seq : AllByRecursion (λ e. IsEarlier id (step_id e)) journal
