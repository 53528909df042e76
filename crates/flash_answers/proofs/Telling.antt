-- What the entries of a call say that its step was told.
use Rattle.std.specs.Option.{option_or}
use Rattle.std.proofs.Common.{◌≡◌, Bool, true, false, ℕ, List, [], ◌∷◌, ◌++◌, Option, None, Some, if◌then◌else◌, refl, sym, ◌∙◌, ap}
use Rattle.std.specs.FinMap as finite
use Rattle.flash_names.specs.declared.place.Id.{Id}
use Rattle.flash_names.specs.declared.geometry.Geometry.{Geometry}
use Rattle.flash_entry.specs.declared.ask.Ask.{Ask}
use Rattle.flash_entry.specs.declared.ask.Ask.TheVariants as asks
use Rattle.flash_entry.specs.declared.ask.Look.{Look}
use Rattle.flash_entry.specs.declared.entry.Done.{Done}
use Rattle.flash_entry.specs.declared.entry.Done.TheVariants as deeds
use Rattle.flash_entry.specs.declared.entry.DropCause.{DropCause}
use Rattle.flash_entry.specs.declared.entry.Entry.{Entry}
use Rattle.flash_entry.specs.declared.entry.Entry.TheVariants as entries
use Rattle.flash_entry.specs.declared.entry.Residence.{Residence}
use Rattle.flash_entry.specs.declared.found.Head.{Head}
use Rattle.flash_entry.specs.declared.found.LookAnswer.TheVariants as answers
use Rattle.flash_entry.specs.declared.found.Told.{Told}
use Rattle.flash_entry.specs.declared.found.Told.TheVariants as told
use Rattle.flash_machine.specs.Item.{Item}
use Rattle.flash_machine.specs.Cache.{Cache}
use Rattle.flash_machine.specs.Live.{live_item}
use Rattle.flash_machine.specs.Looking.{head_of_item, residence_of}
use Rattle.flash_machine.specs.Steps.{next, cache_from, cache_of}
use Rattle.flash_machine.proofs.Runs.{cache_of-append}
use Rattle.flash_calls.specs.declared.found.Found.TheVariants as found
use Rattle.flash_calls.specs.Calls.{tally_now}
use Rattle.flash_calls.specs.Laws.{EachLookupTells}
use Rattle.flash_calls.specs.Lookups.{reading_of, found_of, look_call}
use Rattle.flash_calls.specs.Running.{IsRunning}
use Rattle.flash_calls.specs.Store.{Desk}
use Rattle.flash_calls.specs.Sweeps.{sweep_cause, sweep_step, sweep}
use Rattle.flash_answers.specs.AskCalls.{told_found, ask_call}
use Rattle.flash_answers.specs.Laws.{EachAskIsTold}
use Rattle.flash_answers.specs.Outcomes.{same_id, done_outcome, found_outcome, entry_outcome, outcome_from}
use Rattle.flash_answers.proofs.Behind.{same_self, outcome_from-append, outcome_behind}

-- by whether the value is asked for
found_by : (with_value : Bool) (head : Head) (value : List ℕ)
    → told.Found (if with_value then answers.Hit (record { head = head; value = value }) else answers.Head head)
    ≡ told_found (if with_value then found.Here (record { head = head; value = value }) else found.Head head)
found_by true head value = refl
found_by false head value = refl

-- what a lookup's entry gives is what is told of the live item
found_told : (d : Cache) (look : Look) (live : Option Item) → found_outcome d look live ≡ told_found (found_of d look live)
found_told d look None = refl
found_told d look (Some item) = found_by look.value (head_of_item d look item) item.value

-- an entry of the step itself gives it its outcome
pub own_outcome : (id : Id) (outcome : Told) → (if same_id id id then Some outcome else None) ≡ Some outcome
own_outcome id outcome = ap (λ b. if b then Some outcome else None) (same_self id)

module _ (g : Geometry) (h : List Entry) (c : Cache) (desk : Desk) (id : Id) where
  -- a sweep gives no outcome
  swept_by : (key : List ℕ) (cause : Option DropCause) → outcome_from g h (cache_of g h) id (sweep_step c desk key cause).entries ≡ None
  swept_by key None = refl
  swept_by key (Some cause) = refl

  -- the outcome after a sweep
  behind_sweep : (key : List ℕ) (e : Entry) (behind : List Entry) → let front = h ++ (sweep c desk key).entries in
      outcome_from g h (cache_of g h) id ((sweep c desk key).entries ++ e ∷ behind) ≡ outcome_from g front (cache_of g front) id (e ∷ behind)
  behind_sweep key e behind =
      let swept = (sweep c desk key).entries in
      outcome_from-append g id h (cache_of g h) swept (e ∷ behind)
      ∙ ap (λ (o : Option Told). option_or o (outcome_from g (h ++ swept) (cache_from g h (cache_of g h) swept) id (e ∷ behind))) (swept_by key (sweep_cause c desk key))
      ∙ ap (λ (d : Cache). outcome_from g (h ++ swept) d id (e ∷ behind)) (sym (cache_of-append g h swept))

  -- by an own entry after it
  told_by : (key : List ℕ) (e : Entry) (behind : List Entry) (outcome : Told) → let front = h ++ (sweep c desk key).entries in
      entry_outcome front (cache_of g front) id e ≡ Some outcome → outcome_from g h (cache_of g h) id ((sweep c desk key).entries ++ e ∷ behind) ≡ Some outcome
  told_by key e behind outcome own =
      let front = h ++ (sweep c desk key).entries in
      behind_sweep key e behind ∙ ap (λ (o : Option Told). option_or o (outcome_from g (front ++ e ∷ []) (next g front (cache_of g front) e) id behind)) own

  -- a step that was done after a sweep is told what its entry says
  did_told : (key : List ℕ) (done : Done) → outcome_from g h (cache_of g h) id ((sweep c desk key).entries ++ entries.Did id done ∷ []) ≡ Some (done_outcome done)
  did_told key done = told_by key (entries.Did id done) [] (done_outcome done) (own_outcome id (done_outcome done))

  module _ (tells : EachLookupTells) (is : IsRunning g h c desk) where
    -- a lookup's own entry tells what the call answered
    pub look_entry : (key : List ℕ) (look : Look) (residence : Residence) → let front = h ++ (sweep c desk key).entries in
        entry_outcome front (cache_of g front) id (entries.Looked id key look residence) ≡ Some (told_found (look_call c desk id key look).answer)
    look_entry key look residence =
        let front = h ++ (sweep c desk key).entries in
        let own = cache_of g front in
        let live = live_item front own key in
        own_outcome id (found_outcome own look live) ∙ ap Some (found_told own look live ∙ ap told_found (sym (tells g c h desk id key look is)))

    -- any step
    ask_told : (ask : Ask) → outcome_from g h (cache_of g h) id (ask_call g c desk id ask).entries ≡ Some (ask_call g c desk id ask).answer
    ask_told (asks.Look key look) =
        let swept = sweep c desk key in
        let live = finite.get swept.cache.items key in
        told_by key (entries.Looked id key look (residence_of live)) (reading_of swept.cache swept.desk id key look live).entries
        (told_found (look_call c desk id key look).answer) (look_entry key look (residence_of live))
    ask_told (asks.Store put) = did_told put.key (deeds.Store put _)
    ask_told (asks.Delete key compare) = did_told key (deeds.Delete key compare _)
    ask_told (asks.Sum ask) = did_told ask.key (deeds.Sum ask _)
    ask_told (asks.Touch key exptime) = did_told key (deeds.Touch key exptime _)
    ask_told (asks.Flush delay) = ap (λ (o : Option Told). option_or o None) (own_outcome id told.Flushed)
    ask_told asks.Stats = ap (λ (o : Option Told). option_or o None) (own_outcome id (told.Tally (tally_now c desk)))

-- the journal gives a step what it was told
pub is_told : EachLookupTells → EachAskIsTold
is_told tells g c h desk id ask is new = outcome_behind g id h (ask_call g c desk id ask).entries new ∙ ask_told g h c desk id tells is ask
