-- How items that are dead, or whose page has ended, are dropped.
use Rattle.std.specs.Prelude.{ℕ, Bool, true, false, List, [], ◌∷◌, Option, None, Some, if◌then◌else◌}
use Rattle.std.specs.FinMap as finite
use Rattle.flash_entry.specs.declared.entry.DropCause.{DropCause}
use Rattle.flash_entry.specs.declared.entry.DropCause.TheVariants as causes
use Rattle.flash_entry.specs.declared.entry.Entry.TheVariants as entries
use Rattle.flash_machine.specs.Item.{Item}
use Rattle.flash_machine.specs.Cache.{Cache}
use Rattle.flash_machine.specs.Live.{is_expired_item}
use Rattle.flash_machine.specs.Deleting.{without_item}
use Rattle.flash_calls.specs.Changes.{without_key}
use Rattle.flash_calls.specs.Places.{place_has_ended}
use Rattle.flash_calls.specs.Store.{Desk, Call, idle_call}

-- the key's item is dropped for this cause
abbrev pub drop_call : {A : Type 0} → Cache → Desk → List ℕ → DropCause → A → Call A
drop_call c desk key cause answer = record {
  entries = entries.Dropped key cause ∷ [];
  cache = without_item c key;
  desk = without_key key desk;
  answer = answer;
}

-- whether the item under the key is dead, if there is one
abbrev pub is_expired_at : Cache → Option Item → Bool
is_expired_at c None = false
is_expired_at c (Some item) = is_expired_item c item

-- why an item is dropped: it is dead, or else its page has ended
abbrev pub cause_of : Bool → Bool → Option DropCause
cause_of dead ended = if dead then Some causes.Dead else if ended then Some causes.Ended else None

-- why the key's item is dropped before a call that names the key does anything else, if it is
abbrev pub sweep_cause : Cache → Desk → List ℕ → Option DropCause
sweep_cause c desk key =
    cause_of (is_expired_at c (finite.get c.items key))
    (place_has_ended desk.blocks.pages (finite.get desk.places key))

-- the key's item is dropped for a cause, where there is one
abbrev pub sweep_step : Cache → Desk → List ℕ → Option DropCause → Call Bool
sweep_step c desk key None = idle_call c desk false
sweep_step c desk key (Some cause) = drop_call c desk key cause true

-- what the sweep of a key does; it answers whether an item was dropped
abbrev pub sweep : Cache → Desk → List ℕ → Call Bool
sweep c desk key = sweep_step c desk key (sweep_cause c desk key)
