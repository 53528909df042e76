-- Calls leave the moment; a reading of the clock alone changes it.
use Rattle.std.proofs.Common.{◌≡◌, ℕ, ◌^◌, ◌<◌, ◌≤◌, ℤ, List, Option, None, Some, refl, ◌∙◌, arith}
use Rattle.std.specs.Prelude.{max, min, nat_le, nat_lt}
use Rattle.std.specs.FinMap as finite
use Rattle.std.proofs.lemmas.Bool.{cond_both}
use Rattle.std.proofs.lemmas.Bool.Decides.{nat_tests}
use Rattle.flash_names.specs.declared.place.Id.{Id}
use Rattle.flash_names.specs.declared.geometry.Geometry.{Geometry}
use Rattle.flash_entry.specs.declared.ask.Arith.{Arith}
use Rattle.flash_entry.specs.declared.ask.Ask.{Ask}
use Rattle.flash_entry.specs.declared.ask.Ask.TheVariants as asks
use Rattle.flash_entry.specs.declared.ask.Create.{Create}
use Rattle.flash_entry.specs.declared.ask.Look.{Look}
use Rattle.flash_entry.specs.declared.ask.Put.{Put}
use Rattle.flash_entry.specs.declared.answer.Gone.{Gone}
use Rattle.flash_entry.specs.declared.answer.Stored.{Stored}
use Rattle.flash_entry.specs.declared.answer.Summed.{Summed}
use Rattle.flash_entry.specs.declared.answer.Sum.{Sum}
use Rattle.flash_entry.specs.declared.answer.Sum.TheVariants as sums
use Rattle.flash_entry.specs.declared.entry.DropCause.{DropCause}
use Rattle.flash_machine.specs.Item.{Item}
use Rattle.flash_machine.specs.Cache.{Cache}
use Rattle.flash_machine.specs.Moments.{deadline, is_reached}
use Rattle.flash_machine.specs.Storing.{last_number, stored_item, store_outcome, store_step, refusal}
use Rattle.flash_machine.specs.Looking.{look_next, deadline_after}
use Rattle.flash_machine.specs.Deleting.{compare_fails, delete_step}
use Rattle.flash_machine.specs.Summing.{number_in, changed_number, number_item, number_stored, sum_created, sum_changed, sum_step}
use Rattle.flash_machine.specs.Touching.{touch_step, flush_at}
use Rattle.flash_machine.specs.Steps.{clock_next}
use Rattle.flash_calls.specs.Calls.{clock_call}
use Rattle.flash_calls.specs.Rooms.{Leaver, drop_if}
use Rattle.flash_calls.specs.Store.{Desk, Call}
use Rattle.flash_calls.specs.Sweeps.{sweep_cause, sweep_step, sweep}
use Rattle.flash_answers.specs.AskCalls.{ask_call}
use Rattle.flash_answers.specs.Laws.{AskLeavesTheMoment}

-- a cache with the moment of another
abbrev IsAt : Cache → Cache → Type 0
IsAt old new = new.now ≡ old.now

-- a sweep
swept_by : (c : Cache) (desk : Desk) (key : List ℕ) (cause : Option DropCause) → IsAt c (sweep_step c desk key cause).cache
swept_by c desk key None = refl
swept_by c desk key (Some cause) = refl

-- a step on a key's item
abbrev LeavesIt : (Cache → Option Item → Cache) → Type 0
LeavesIt next = (c : Cache) (live : Option Item) → IsAt c (next c live)

-- after the sweep of the key
behind_sweep : (next : Cache → Option Item → Cache) → LeavesIt next → (c : Cache) (desk : Desk) (key : List ℕ)
    → IsAt c (next (sweep c desk key).cache (finite.get (sweep c desk key).cache.items key))
behind_sweep next leaves c desk key =
    let s = (sweep c desk key).cache in
    leaves s (finite.get s.items key) ∙ swept_by c desk key (sweep_cause c desk key)

-- a lookup's step
look_leaves : (key : List ℕ) (look : Look) → LeavesIt (λ c live. look_next c key look live)
look_leaves key look c None = refl
look_leaves key look c (Some item) = refl

-- a store's step, refused or not
store_by : (refusal : Option Stored) (c : Cache) (key : List ℕ) (item : Item) → IsAt c (store_outcome refusal c key item).1
store_by None c key item = refl
store_by (Some refusal) c key item = refl

store_leaves : (g : Geometry) (put : Put) → LeavesIt (λ c live. (store_step g c put live).1)
store_leaves g put c live = store_by (refusal g c put live) c put.key (stored_item c put put.mode live)

-- a delete's step
delete_leaves : (key : List ℕ) (compare : Option ℕ) → LeavesIt (λ c live. (delete_step c key compare live).1)
delete_leaves key compare c None = refl
delete_leaves key compare c (Some item) =
    cond_both (compare_fails compare item.cas) _ _ (λ (step : Gone × Cache). IsAt c step.1) (λ fails. refl) (λ equal. refl)

-- the step of arithmetic
number_leaves : (answer : Summed → Sum) (c : Cache) (key : List ℕ) (flags : ℕ) (until : Option ℕ) (number : ℕ)
    → IsAt c (number_stored answer c key (number_item c flags until number) number).1
number_leaves answer c key flags until number =
    cond_both (nat_le last_number c.last_cas) _ _ (λ (step : Sum × Cache). IsAt c step.1) (λ last. refl) (λ more. refl)

created_leaves : (c : Cache) (key : List ℕ) (create : Option Create) → IsAt c (sum_created c key create).1
created_leaves c key None = refl
created_leaves c key (Some create) = number_leaves sums.Created c key 0 (deadline create.exptime c.now) create.start

changed_leaves : (c : Cache) (ask : Arith) (item : Item) (number : Option ℕ) → IsAt c (sum_changed c ask item number).1
changed_leaves c ask item None = refl
changed_leaves c ask item (Some number) =
    number_leaves sums.Now c ask.key item.flags (deadline_after ask.renew item.deadline c.now) (changed_number ask.down ask.delta number)

sum_leaves : (ask : Arith) → LeavesIt (λ c live. (sum_step c ask live).1)
sum_leaves ask c None = created_leaves c ask.key ask.create
sum_leaves ask c (Some item) =
    cond_both (compare_fails ask.compare item.cas) _ _ (λ (step : Sum × Cache). IsAt c step.1)
    (λ fails. refl) (λ equal. changed_leaves c ask item (number_in item))

-- a touch's step
touch_leaves : (key : List ℕ) (exptime : ℤ) → LeavesIt (λ c live. (touch_step c key exptime live).1)
touch_leaves key exptime c None = refl
touch_leaves key exptime c (Some item) = refl

-- a flush
flush_by : (c : Cache) (moment : Option ℕ) → IsAt c (flush_at c moment)
flush_by c None = refl
flush_by c (Some moment) = cond_both (nat_le moment c.now) _ _ (IsAt c) (λ reached. refl) (λ pending. refl)

-- any step
pub ask_leaves : AskLeavesTheMoment
ask_leaves g c desk id (asks.Look key look) = behind_sweep (λ d live. look_next d key look live) (look_leaves key look) c desk key
ask_leaves g c desk id (asks.Store put) = behind_sweep (λ d live. (store_step g d put live).1) (store_leaves g put) c desk put.key
ask_leaves g c desk id (asks.Delete key compare) = behind_sweep (λ d live. (delete_step d key compare live).1) (delete_leaves key compare) c desk key
ask_leaves g c desk id (asks.Sum ask) = behind_sweep (λ d live. (sum_step d ask live).1) (sum_leaves ask) c desk ask.key
ask_leaves g c desk id (asks.Touch key exptime) = behind_sweep (λ d live. (touch_step d key exptime live).1) (touch_leaves key exptime) c desk key
ask_leaves g c desk id (asks.Flush delay) = flush_by c (deadline delay c.now)
ask_leaves g c desk id asks.Stats = refl

-- a call that drops an item, or doesn't
pub drop_leaves : (c : Cache) (desk : Desk) (leaver : Option Leaver) → (drop_if c desk leaver).cache.now ≡ c.now
drop_leaves c desk None = refl
drop_leaves c desk (Some leaver) = refl

-- a reading of the clock makes the moment the greater of both
risen_moment : (c : Cache) (moment : ℕ) → (clock_next c moment).now ≡ moment
risen_moment c moment = cond_both (is_reached c.pending_flush moment) _ _ (λ (d : Cache). d.now ≡ moment) (λ reached. refl) (λ pending. refl)

pub clock_moment : (c : Cache) (desk : Desk) (reading : ℕ) → (clock_call c desk reading).cache.now ≡ max c.now (min reading (2 ^ 62))
clock_moment c desk reading =
    let moment = min reading (2 ^ 62) in
    cond_both (nat_lt c.now moment) _ _ (λ (call : Call _). call.cache.now ≡ max c.now moment)
    (λ rises. risen_moment c moment ∙ (let above : c.now < moment = grind (arith, nat_tests) in omega (arith, above)))
    (λ stays. let below : moment ≤ c.now = grind (arith, nat_tests) in omega (arith, below))
