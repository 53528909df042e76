-- What a store does for the commands, and for a reading of the clock.
use Rattle.std.specs.Prelude.{ℕ, ℤ, ◌^◌, ◌-◌, min, Bool, true, false, List, [], ◌∷◌, ◌++◌, Option, nat_lt}
use Rattle.std.specs.Prelude.{if◌then◌else◌}
use Rattle.std.specs.FinMap as finite
use Rattle.flash_names.specs.declared.place.Id.{Id}
use Rattle.flash_names.specs.declared.geometry.Geometry.{Geometry}
use Rattle.flash_entry.specs.declared.ask.Arith.{Arith}
use Rattle.flash_entry.specs.declared.ask.Put.{Put}
use Rattle.flash_entry.specs.declared.answer.Gone.{Gone}
use Rattle.flash_entry.specs.declared.answer.Gone.TheVariants as gone
use Rattle.flash_entry.specs.declared.answer.Stored.{Stored}
use Rattle.flash_entry.specs.declared.answer.Stored.TheVariants as stored
use Rattle.flash_entry.specs.declared.answer.Sum.{Sum}
use Rattle.flash_entry.specs.declared.answer.Sum.TheVariants as sums
use Rattle.flash_entry.specs.declared.answer.Tally.{Tally}
use Rattle.flash_entry.specs.declared.answer.Touched.{Touched}
use Rattle.flash_entry.specs.declared.entry.Done.{Done}
use Rattle.flash_entry.specs.declared.entry.Done.TheVariants as deeds
use Rattle.flash_entry.specs.declared.entry.Entry.TheVariants as entries
use Rattle.flash_pages.specs.PageTable.{free_count}
use Rattle.flash_machine.specs.Item.{Item}
use Rattle.flash_machine.specs.Cache.{Cache}
use Rattle.flash_machine.specs.Moments.{last_moment}
use Rattle.flash_machine.specs.Load.{load_of}
use Rattle.flash_machine.specs.Storing.{store_step}
use Rattle.flash_machine.specs.Deleting.{delete_step}
use Rattle.flash_machine.specs.Summing.{sum_step}
use Rattle.flash_machine.specs.Touching.{touch_step, flush_next}
use Rattle.flash_machine.specs.Steps.{clock_next}
use Rattle.flash_calls.specs.Changes.{Change, leaves, stores, drops, desk_after}
use Rattle.flash_calls.specs.Store.{Desk, Call, idle_call}
use Rattle.flash_calls.specs.Sweeps.{sweep}

-- a command on one key: its step from the heads and the live item, what it notes of its answer, and what it does with
-- the item by its answer
pub record Command (A : Type 0) : Type 0 where
  pub step : Cache → Option Item → A × Cache
  pub deed : A → Done
  pub change : A → Change

-- a command after the sweep of its key
abbrev pub command_after_sweep : {A : Type 0} → Command A → Call Bool → Id → List ℕ → Call A
command_after_sweep command swept id key =
    let done = command.step swept.cache (finite.get swept.cache.items key) in record {
      entries = swept.entries ++ entries.Did id (command.deed done.0) ∷ [];
      cache = done.1;
      desk = desk_after (command.change done.0) key (finite.get done.1.items key) swept.desk;
      answer = done.0;
    }

-- what a command does: it sweeps its key, and then does its step
abbrev pub command_call : {A : Type 0} → Command A → Cache → Desk → Id → List ℕ → Call A
command_call command c desk id key = command_after_sweep command (sweep c desk key) id key

-- a store: a refusal leaves the item
abbrev pub change_of_store : Stored → Change
change_of_store (stored.Stored cas) = stores
change_of_store stored.NotStored = leaves
change_of_store stored.Exists = leaves
change_of_store stored.NotFound = leaves
change_of_store stored.TooLarge = leaves
change_of_store stored.NoNumber = leaves

abbrev pub store_command : Geometry → Put → Command Stored
store_command g put = record {
  step = λ c live. store_step g c put live;
  deed = λ answer. deeds.Store put answer;
  change = change_of_store;
}

-- what a store does
abbrev pub store_call : Geometry → Cache → Desk → Id → Put → Call Stored
store_call g c desk id put = command_call (store_command g put) c desk id put.key

-- a delete
abbrev pub change_of_delete : Gone → Change
change_of_delete gone.Deleted = drops
change_of_delete gone.NotFound = leaves
change_of_delete gone.Exists = leaves

abbrev pub delete_command : List ℕ → Option ℕ → Command Gone
delete_command key compare = record {
  step = λ c live. delete_step c key compare live;
  deed = λ answer. deeds.Delete key compare answer;
  change = change_of_delete;
}

-- what a delete does
abbrev pub delete_call : Cache → Desk → Id → List ℕ → Option ℕ → Call Gone
delete_call c desk id key compare = command_call (delete_command key compare) c desk id key

-- arithmetic
abbrev pub change_of_sum : Sum → Change
change_of_sum (sums.Now summed) = stores
change_of_sum (sums.Created summed) = stores
change_of_sum sums.NotFound = leaves
change_of_sum sums.NonNumeric = leaves
change_of_sum sums.Exists = leaves
change_of_sum sums.NoNumber = leaves

abbrev pub sum_command : Arith → Command Sum
sum_command ask = record {
  step = λ c live. sum_step c ask live;
  deed = λ answer. deeds.Sum ask answer;
  change = change_of_sum;
}

-- what arithmetic does
abbrev pub sum_call : Cache → Desk → Id → Arith → Call Sum
sum_call c desk id ask = command_call (sum_command ask) c desk id ask.key

-- a touch, which leaves the value
abbrev pub touch_command : List ℕ → ℤ → Command Touched
touch_command key exptime = record {
  step = λ c live. touch_step c key exptime live;
  deed = λ answer. deeds.Touch key exptime answer;
  change = λ answer. leaves;
}

-- what a touch does
abbrev pub touch_call : Cache → Desk → Id → List ℕ → ℤ → Call Touched
touch_call c desk id key exptime = command_call (touch_command key exptime) c desk id key

-- what a flush does, with its delay
abbrev pub flush_call : Cache → Desk → Id → ℤ → Call (Unit {0})
flush_call c desk id delay = record {
  entries = entries.Did id (deeds.Flush delay) ∷ [];
  cache = flush_next c delay;
  desk = desk;
  answer = tt;
}

-- the numbers that a store tells of itself; its pages say how many are free
abbrev pub tally_now : Cache → Desk → Tally
tally_now c desk = record {
  items = finite.len c.items;
  load = min (load_of c.items) (2 ^ 64 - 1);
  last_cas = c.last_cas;
  now = c.now;
  free_pages = free_count desk.blocks.pages;
}

-- what telling the numbers does
abbrev pub tally_call : Cache → Desk → Id → Call Tally
tally_call c desk id = record {
  entries = entries.Did id (deeds.Stats (tally_now c desk)) ∷ [];
  cache = c;
  desk = desk;
  answer = tally_now c desk;
}

-- a reading of the clock, up to 2^62, that is above the moment
abbrev pub clock_to : Cache → Desk → ℕ → Call Bool
clock_to c desk moment =
    if nat_lt c.now moment
    then (record { entries = entries.Clock moment ∷ []; cache = clock_next c moment; desk = desk; answer = true })
    else idle_call c desk false

-- what a reading of the clock does: above 2^62 it counts as 2^62
abbrev pub clock_call : Cache → Desk → ℕ → Call Bool
clock_call c desk reading = clock_to c desk (min reading last_moment)
