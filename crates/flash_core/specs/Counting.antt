-- What arithmetic chooses to do with a number.
use Rattle.std.specs.Prelude.{◌≡◌, ℕ, ◌^◌, ◌<◌, Bool, List, Option, None, Result, Ok, Err, if◌then◌else◌}
use Rattle.std.specs.Option.{ForSome}
use Rattle.std.specs.FinMap.{get}
use Rattle.flash_entry.specs.declared.ask.Arith.{Arith}
use Rattle.flash_entry.specs.declared.answer.Summed.{Summed}
use Rattle.flash_entry.specs.declared.answer.Sum.{Sum}
use Rattle.flash_entry.specs.declared.answer.Sum.TheVariants as sums
use Rattle.flash_machine.specs.Cache.{Cache}
use Rattle.flash_machine.specs.Moments.{deadline}
use Rattle.flash_machine.specs.Looking.{deadline_after}
use Rattle.flash_machine.specs.Summing.{number_item, number_stored}
use Rattle.flash_calls.specs.Calls.{change_of_sum}
use Rattle.flash_calls.specs.Changes.{desk_after}
use Rattle.flash_calls.specs.Store.{Desk}
use Rattle.flash_core.specs.declared.arith.NewNumber.{NewNumber}
use Rattle.flash_core.specs.declared.arith.SumChoice.{SumChoice}
use Rattle.flash_core.specs.Changes.{items_after_store, desk_after_store}
use Rattle.flash_core.specs.Items.{HasDeadline}

-- the answer with a number, for an item that is new or isn't
abbrev pub answer_with : Bool → Summed → Sum
answer_with is_new summed = if is_new then sums.Created summed else sums.Now summed

-- the answer and the next cache, by the refusal or the number that is to be stored
abbrev pub sum_with : Cache → List ℕ → Result NewNumber Sum → Sum × Cache
sum_with c key (Err refusal) = (refusal, c)
sum_with c key (Ok new) =
    number_stored (answer_with new.is_new) c key (number_item c new.flags new.deadline new.number) new.number

-- an answer without a number
abbrev pub HasNoNumber : Sum → Type 0
HasNoNumber (sums.Now summed) = ⊥
HasNoNumber (sums.Created summed) = ⊥
HasNoNumber _ = Unit {0}

-- the cache after arithmetic, by what was chosen
abbrev pub cache_with : List ℕ → SumChoice → Cache → Cache
cache_with key choice c =
    record c { items = items_after_store key None choice.item c.items; last_cas = choice.last_cas }

-- this is chosen where arithmetic on the key does that step
pub record IsChosen (c : Cache) (key : List ℕ) (step : Sum × Cache) (choice : SumChoice) : Type 0 where
  pub answer_is : choice.answer ≡ step.0
  pub cache_is : cache_with key choice c ≡ step.1
  pub desk_is : (desk : Desk) → desk_after_store key None choice.item desk
      ≡ desk_after (change_of_sum choice.answer) key (get step.1.items key) desk

-- what arithmetic may set are deadlines below 2^63, and numbers below 2^64
pub record MaySet (ask : Arith) (moment : ℕ) : Type 0 where
  pub created : ForSome ask.create (λ create. HasDeadline (deadline create.exptime moment) × (create.start < 2 ^ 64))
  pub renewed : (was : Option ℕ) → HasDeadline was → HasDeadline (deadline_after ask.renew was moment)
