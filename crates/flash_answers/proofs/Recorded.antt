-- Which steps the entries of a call record.
use Rattle.std.proofs.Common.{◌≡◌, ℕ, List, [], ◌∷◌, ◌++◌, Option, None, Some, refl, sym, ◌∙◌}
use Rattle.std.specs.FinMap as finite
use Rattle.std.specs.Prelude.{nat_lt}
use Rattle.std.proofs.lemmas.Bool.{cond_both}
use Rattle.std.proofs.lemmas.Option.{same_Some}
use Rattle.flash_names.specs.declared.place.Id.{Id}
use Rattle.flash_names.specs.declared.place.Label.{Label}
use Rattle.flash_entry.specs.declared.ask.Ask.{Ask}
use Rattle.flash_entry.specs.declared.ask.Ask.TheVariants as asks
use Rattle.flash_entry.specs.declared.ask.Look.{Look}
use Rattle.flash_entry.specs.declared.entry.DropCause.{DropCause}
use Rattle.flash_entry.specs.declared.entry.Done.TheVariants as deeds
use Rattle.flash_entry.specs.declared.entry.Entry.{Entry}
use Rattle.flash_entry.specs.declared.entry.Entry.TheVariants as entries
use Rattle.flash_entry.specs.declared.found.Head.{Head}
use Rattle.flash_machine.specs.Item.{Item}
use Rattle.flash_machine.specs.Cache.{Cache}
use Rattle.flash_machine.specs.Looking.{head_of_item, residence_of}
use Rattle.flash_calls.specs.Calls.{clock_call, tally_now}
use Rattle.flash_calls.specs.Lookups.{Buffered, buffered, Reading, reading_away, reading_at, reading_of}
use Rattle.flash_calls.specs.Rooms.{Leaver, drop_if}
use Rattle.flash_calls.specs.Store.{Desk, Call}
use Rattle.flash_calls.specs.Sweeps.{sweep_cause, sweep_step, sweep}
use Rattle.flash_calls.proofs.Quiet.{all_behind}
use Rattle.flash_answers.specs.Laws.{EachAskRecordsItself}
use Rattle.flash_answers.specs.Records.{entry_ask, IsOf, AreOf, AreOfNoStep}
use Rattle.flash_answers.proofs.Lists.{all_map}

-- a sweep records no step
swept_by : (c : Cache) (desk : Desk) (key : List ℕ) (cause : Option DropCause) → AreOfNoStep (sweep_step c desk key cause).entries
swept_by c desk key None = tt
swept_by c desk key (Some cause) = (refl, tt)

pub swept_unasked : (c : Cache) (desk : Desk) (key : List ℕ) → AreOfNoStep (sweep c desk key).entries
swept_unasked c desk key = swept_by c desk key (sweep_cause c desk key)

-- nor does what a lookup notes after what it found
module _ (id : Id) (item : Item) (head : Head) where
  away_unasked : (held : Option Buffered) → AreOfNoStep (reading_away id item head held).entries
  away_unasked None = tt
  away_unasked (Some held) = (refl, (refl, tt))

  at_unasked : (label : Option Label) (held : Option Buffered) → AreOfNoStep (reading_at id item head label held).entries
  at_unasked None held = tt
  at_unasked (Some label) held = away_unasked held

pub reading_unasked : (c : Cache) (desk : Desk) (id : Id) (key : List ℕ) (look : Look) (live : Option Item) → AreOfNoStep (reading_of c desk id key look live).entries
reading_unasked c desk id key look None = tt
reading_unasked c desk id key look (Some item) =
    cond_both look.value _ _ (λ (reading : Reading). AreOfNoStep reading.entries)
    (λ wanted. at_unasked id item (head_of_item c look item) item.label (buffered desk key)) (λ unwanted. tt)

module _ (c : Cache) (desk : Desk) (id : Id) (ask : Ask) where
  -- an entry of this step with this ask
  own_asked : (e : Entry) → entry_ask e ≡ Some (id, ask) → IsOf id ask e
  own_asked e own step is = same_Some step (id, ask) (sym is ∙ own)

  -- entries of no step are of no other
  none_of : (es : List Entry) → AreOfNoStep es → AreOf id ask es
  none_of es none = all_map (λ e. entry_ask e ≡ None) (IsOf id ask) (λ e unasked step is. absurd (cc (unasked, is))) es none

  -- a sweep with the step's own entry after it, and entries of no step behind, records the step
  behind_sweep : (key : List ℕ) (e : Entry) (behind : List Entry) → entry_ask e ≡ Some (id, ask) → AreOfNoStep behind → AreOf id ask ((sweep c desk key).entries ++ e ∷ behind)
  behind_sweep key e behind own none =
      let swept = (sweep c desk key).entries in
      all_behind (IsOf id ask) swept (e ∷ behind) (none_of swept (swept_unasked c desk key)) (own_asked e own, none_of behind none)

-- a step records itself
pub records_itself : EachAskRecordsItself
records_itself g c desk id (asks.Look key look) =
    let swept = sweep c desk key in
    let live = finite.get swept.cache.items key in
    behind_sweep c desk id (asks.Look key look) key (entries.Looked id key look (residence_of live)) (reading_of swept.cache swept.desk id key look live).entries refl
    (reading_unasked swept.cache swept.desk id key look live)
records_itself g c desk id (asks.Store put) = behind_sweep c desk id (asks.Store put) put.key (entries.Did id (deeds.Store put _)) [] refl tt
records_itself g c desk id (asks.Delete key compare) = behind_sweep c desk id (asks.Delete key compare) key (entries.Did id (deeds.Delete key compare _)) [] refl tt
records_itself g c desk id (asks.Sum ask) = behind_sweep c desk id (asks.Sum ask) ask.key (entries.Did id (deeds.Sum ask _)) [] refl tt
records_itself g c desk id (asks.Touch key exptime) = behind_sweep c desk id (asks.Touch key exptime) key (entries.Did id (deeds.Touch key exptime _)) [] refl tt
records_itself g c desk id (asks.Flush delay) = (own_asked c desk id (asks.Flush delay) (entries.Did id (deeds.Flush delay)) refl, tt)
records_itself g c desk id asks.Stats = (own_asked c desk id asks.Stats (entries.Did id (deeds.Stats (tally_now c desk))) refl, tt)

-- a call that drops an item, or doesn't, records none
pub drop_unasked : (c : Cache) (desk : Desk) (leaver : Option Leaver) → AreOfNoStep (drop_if c desk leaver).entries
drop_unasked c desk None = tt
drop_unasked c desk (Some leaver) = (refl, tt)

-- nor does a reading of the clock
pub clock_unasked : (c : Cache) (desk : Desk) (reading : ℕ) → AreOfNoStep (clock_call c desk reading).entries
clock_unasked c desk reading = cond_both (nat_lt c.now _) _ _ (λ (call : Call _). AreOfNoStep call.entries) (λ rises. (refl, tt)) (λ stays. tt)
