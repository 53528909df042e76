-- What a step notes, and that its own entry tells what the step was told.
use Rattle.std.proofs.Common.{◌≡◌, ℕ, List, [], ◌∷◌, ◌++◌, Option, None, Some, refl, sym, ◌∙◌, ap}
use Rattle.std.proofs.lemmas.List.{append-nil}
use Rattle.std.specs.FinMap as finite
use Rattle.flash_names.specs.declared.place.Id.{Id}
use Rattle.flash_names.specs.declared.geometry.Geometry.{Geometry}
use Rattle.flash_entry.specs.declared.ask.Ask.{Ask}
use Rattle.flash_entry.specs.declared.ask.Ask.TheVariants as asks
use Rattle.flash_entry.specs.declared.entry.Done.{Done}
use Rattle.flash_entry.specs.declared.entry.Done.TheVariants as deeds
use Rattle.flash_entry.specs.declared.entry.DropCause.{DropCause}
use Rattle.flash_entry.specs.declared.entry.Entry.{Entry}
use Rattle.flash_entry.specs.declared.entry.Entry.TheVariants as entries
use Rattle.flash_entry.specs.declared.found.Told.{Told}
use Rattle.flash_machine.specs.Cache.{Cache}
use Rattle.flash_machine.specs.Looking.{residence_of}
use Rattle.flash_machine.specs.Steps.{cache_from, cache_of}
use Rattle.flash_machine.proofs.Runs.{cache_of-append}
use Rattle.flash_calls.specs.Calls.{tally_now}
use Rattle.flash_calls.specs.Laws.{EachLookupTells}
use Rattle.flash_calls.specs.Lookups.{reading_of}
use Rattle.flash_calls.specs.Running.{IsRunning}
use Rattle.flash_calls.specs.Store.{Desk, Call}
use Rattle.flash_calls.specs.Sweeps.{sweep_cause, sweep_step, sweep}
use Rattle.flash_answers.specs.AskCalls.{ask_call}
use Rattle.flash_answers.specs.Laws.{NotesItself, EachAskNotesItself}
use Rattle.flash_answers.specs.Outcomes.{done_outcome, entry_outcome}
use Rattle.flash_answers.specs.Records.{entry_ask, AreOfNoStep}
use Rattle.flash_answers.proofs.Recorded.{swept_unasked, reading_unasked}
use Rattle.flash_answers.proofs.Telling.{own_outcome, look_entry}

module _ (g : Geometry) (h : List Entry) (c : Cache) (desk : Desk) (id : Id) (is : IsRunning g h c desk) where
  -- the run's own cache has the moment of its heads
  own_moment : (cache_of g h).now ≡ c.now
  own_moment = sym (ap (λ (d : Cache). d.now) is.run.same)

  -- a sweep leaves the moment
  moment_by : (key : List ℕ) (cause : Option DropCause) → (cache_from g h (cache_of g h) (sweep_step c desk key cause).entries).now ≡ (cache_of g h).now
  moment_by key None = refl
  moment_by key (Some cause) = refl

  swept_moment : (key : List ℕ) → (cache_of g (h ++ (sweep c desk key).entries)).now ≡ c.now
  swept_moment key = ap (λ (d : Cache). d.now) (cache_of-append g h (sweep c desk key).entries) ∙ moment_by key (sweep_cause c desk key) ∙ own_moment

  -- a call that sweeps its key, and notes its own entry and others behind it
  swept_notes : (key : List ℕ) (ask : Ask) (e : Entry) (behind : List Entry) (call : Call Told) → call.entries ≡ (sweep c desk key).entries ++ e ∷ behind
      → AreOfNoStep behind → entry_ask e ≡ Some (id, ask)
      → entry_outcome (h ++ (sweep c desk key).entries) (cache_of g (h ++ (sweep c desk key).entries)) id e ≡ Some call.answer → NotesItself g c h id ask call
  swept_notes key ask e behind call whole rest asked tells = record {
    more = (sweep c desk key).entries;
    own = e;
    behind = behind;
    whole = whole;
    others = swept_unasked c desk key;
    rest = rest;
    asked = asked;
    told = tells;
    moment = swept_moment key;
  }

  -- a call that notes its own entry alone
  plain_notes : (ask : Ask) (done : Done) (call : Call Told) → call.entries ≡ entries.Did id done ∷ [] → entry_ask (entries.Did id done) ≡ Some (id, ask)
      → done_outcome done ≡ call.answer → NotesItself g c h id ask call
  plain_notes ask done call whole asked tells = record {
    more = [];
    own = entries.Did id done;
    behind = [];
    whole = whole;
    others = tt;
    rest = tt;
    asked = asked;
    told = own_outcome id (done_outcome done) ∙ ap Some tells;
    moment = ap (λ (j : List Entry). (cache_of g j).now) (append-nil h) ∙ own_moment;
  }

-- any step
pub notes_itself : EachLookupTells → EachAskNotesItself
notes_itself tells g c h desk id (asks.Look key look) is =
    let swept = sweep c desk key in
    let live = finite.get swept.cache.items key in
    let behind = (reading_of swept.cache swept.desk id key look live).entries in
    swept_notes g h c desk id is key (asks.Look key look) (entries.Looked id key look (residence_of live)) behind
    (ask_call g c desk id (asks.Look key look)) refl (reading_unasked swept.cache swept.desk id key look live) refl
    (look_entry g h c desk id tells is key look (residence_of live))
notes_itself tells g c h desk id (asks.Store put) is =
    swept_notes g h c desk id is put.key (asks.Store put) (entries.Did id (deeds.Store put _)) [] (ask_call g c desk id (asks.Store put)) refl tt refl (own_outcome id _)
notes_itself tells g c h desk id (asks.Delete key compare) is =
    swept_notes g h c desk id is key (asks.Delete key compare) (entries.Did id (deeds.Delete key compare _)) [] (ask_call g c desk id (asks.Delete key compare)) refl tt refl (own_outcome id _)
notes_itself tells g c h desk id (asks.Sum ask) is =
    swept_notes g h c desk id is ask.key (asks.Sum ask) (entries.Did id (deeds.Sum ask _)) [] (ask_call g c desk id (asks.Sum ask)) refl tt refl (own_outcome id _)
notes_itself tells g c h desk id (asks.Touch key exptime) is =
    swept_notes g h c desk id is key (asks.Touch key exptime) (entries.Did id (deeds.Touch key exptime _)) [] (ask_call g c desk id (asks.Touch key exptime)) refl tt refl (own_outcome id _)
notes_itself tells g c h desk id (asks.Flush delay) is =
    plain_notes g h c desk id is (asks.Flush delay) (deeds.Flush delay) (ask_call g c desk id (asks.Flush delay)) refl refl refl
notes_itself tells g c h desk id asks.Stats is =
    plain_notes g h c desk id is asks.Stats (deeds.Stats (tally_now c desk)) (ask_call g c desk id asks.Stats) refl refl refl
