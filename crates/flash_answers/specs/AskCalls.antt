-- What a store does for each step that a session asks of it.
use Rattle.std.specs.Prelude.{Bool, true, false}
use Rattle.flash_names.specs.declared.place.Id.{Id}
use Rattle.flash_names.specs.declared.geometry.Geometry.{Geometry}
use Rattle.flash_entry.specs.declared.ask.Ask.{Ask}
use Rattle.flash_entry.specs.declared.ask.Ask.TheVariants as asks
use Rattle.flash_entry.specs.declared.found.LookAnswer.TheVariants as answers
use Rattle.flash_entry.specs.declared.found.Told.{Told}
use Rattle.flash_entry.specs.declared.found.Told.TheVariants as told
use Rattle.flash_machine.specs.Cache.{Cache}
use Rattle.flash_calls.specs.declared.found.Found.{Found}
use Rattle.flash_calls.specs.declared.found.Found.TheVariants as found
use Rattle.flash_calls.specs.Calls.{store_call, delete_call, sum_call, touch_call, flush_call, tally_call}
use Rattle.flash_calls.specs.Lookups.{look_call}
use Rattle.flash_calls.specs.Store.{Desk, Call}

-- the same call, whose answer is told to a session
abbrev pub told_call : {A : Type 0} → (A → Told) → Call A → Call Told
told_call tell call = record {
  entries = call.entries;
  cache = call.cache;
  desk = call.desk;
  answer = tell call.answer;
}

-- what a session is told of a lookup; a value that is on flash and in no write buffer isn't read, and is told as a miss
abbrev pub told_found : Found → Told
told_found found.Miss = told.Found answers.Miss
told_found (found.Head head) = told.Found (answers.Head head)
told_found (found.Here hit) = told.Found (answers.Hit hit)
told_found (found.Away head) = told.Found answers.Miss

-- what a store does for a step, and what the session is told
abbrev pub ask_call : Geometry → Cache → Desk → Id → Ask → Call Told
ask_call g c desk id (asks.Look key look) = told_call told_found (look_call c desk id key look)
ask_call g c desk id (asks.Store put) = told_call told.Stored (store_call g c desk id put)
ask_call g c desk id (asks.Delete key compare) = told_call told.Gone (delete_call c desk id key compare)
ask_call g c desk id (asks.Sum ask) = told_call told.Sum (sum_call c desk id ask)
ask_call g c desk id (asks.Touch key exptime) = told_call told.Touched (touch_call c desk id key exptime)
ask_call g c desk id (asks.Flush delay) = told_call (λ done. told.Flushed) (flush_call c desk id delay)
ask_call g c desk id asks.Stats = told_call told.Tally (tally_call c desk id)

-- whether a step takes memory, beside what the journal takes: for a value, or for an item that is stored
abbrev pub takes_memory : Ask → Bool
takes_memory (asks.Look key look) = look.value
takes_memory (asks.Store put) = true
takes_memory (asks.Sum ask) = true
takes_memory _ = false
