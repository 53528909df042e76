-- What a run says of the lookups of items on flash.
use Rattle.std.specs.Prelude.{◌≡◌, false, List, None, IsTrue}
use Rattle.flash_names.specs.declared.place.Id.{Id}
use Rattle.flash_names.specs.declared.geometry.Geometry.{Geometry}
use Rattle.flash_entry.specs.declared.entry.Close.{Close}
use Rattle.flash_entry.specs.declared.entry.Entry.{Entry}
use Rattle.flash_entry.specs.declared.entry.Entry.TheVariants as entries
use Rattle.flash_machine.specs.NewSteps.{is_new_step}
use Rattle.flash_machine.specs.Lookups.{open_lookup, was_from_buffer}
use Rattle.flash_machine.specs.DeviceReads.{read_of}
use Rattle.flash_machine.specs.Legal.{Legal}
use Rattle.flash_machine.specs.Splits.{journal_of_two}

-- no run closes the lookup of a step twice
abbrev pub ALookupIsClosedOnce : Type 0
ALookupIsClosedOnce =
    (g : Geometry) (before between after : List Entry) (id : Id) (first second : Close)
    → Legal g (journal_of_two before (entries.Closed id first) between (entries.Closed id second) after) → ⊥

-- the step has no open lookup, no read, and no value from a buffer
pub record HasNoLookup (g : Geometry) (h : List Entry) (id : Id) : Type 0 where
  pub lookup : open_lookup g id h ≡ None
  pub read : read_of id h ≡ None
  pub buffer : was_from_buffer id h ≡ false

-- a step that is new to a run has no lookup in it
abbrev pub ANewStepHasNoLookup : Type 0
ANewStepHasNoLookup =
    (g : Geometry) (h : List Entry) (id : Id) → Legal g h → IsTrue (is_new_step h id) → HasNoLookup g h id
