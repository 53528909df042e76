-- What a step notes behind its own entry: the read of its own value, and nothing else.
use Rattle.std.proofs.Common.{◌≡◌, ℕ, List, [], ◌∷◌, ◌++◌, Option, None, Some, refl, sym, ◌∙◌, subst}
use Rattle.std.specs.FinMap as finite
use Rattle.std.specs.List.{AllByRecursion}
use Rattle.std.proofs.lemmas.Bool.{cond_both}
use Rattle.flash_names.specs.declared.geometry.Geometry.{Geometry}
use Rattle.flash_names.specs.declared.place.Id.{Id}
use Rattle.flash_names.specs.declared.place.Label.{Label}
use Rattle.flash_entry.specs.declared.ask.Ask.{Ask}
use Rattle.flash_entry.specs.declared.ask.Ask.TheVariants as asks
use Rattle.flash_entry.specs.declared.ask.Look.{Look}
use Rattle.flash_entry.specs.declared.entry.Done.TheVariants as deeds
use Rattle.flash_entry.specs.declared.entry.DropCause.{DropCause}
use Rattle.flash_entry.specs.declared.entry.Entry.{Entry}
use Rattle.flash_entry.specs.declared.entry.Entry.TheVariants as entries
use Rattle.flash_entry.specs.declared.found.Head.{Head}
use Rattle.flash_machine.specs.Cache.{Cache}
use Rattle.flash_machine.specs.Item.{Item}
use Rattle.flash_machine.specs.Looking.{head_of_item, residence_of}
use Rattle.flash_calls.specs.Calls.{store_call, delete_call, sum_call, touch_call, tally_now}
use Rattle.flash_calls.specs.Lookups.{Buffered, buffered, Reading, reading_away, reading_at, reading_of}
use Rattle.flash_calls.specs.Store.{Desk}
use Rattle.flash_calls.specs.Sweeps.{sweep_cause, sweep_step, sweep}
use Rattle.flash_answers.specs.AskCalls.{ask_call}
use Rattle.flash_answers.specs.Laws.{NotesItself}
use Rattle.flash_answers.specs.Records.{entry_ask, AreOfNoStep}
use Rattle.flash_actors.specs.Stepping.{IsOwnRead, AreOwnReads}

-- such entries are of no step
one_unasked : (id : Id) (e : Entry) → IsOwnRead id e → entry_ask e ≡ None
one_unasked id (entries.FromBuffer other place) own = refl
one_unasked id (entries.Closed other close) own = refl
one_unasked id _ own = absurd own

pub reads_unasked : (id : Id) (es : List Entry) → AreOwnReads id es → AreOfNoStep es
reads_unasked id [] own = tt
reads_unasked id (e ∷ es) own = (one_unasked id e own.0, reads_unasked id es own.1)

-- the entry of a step stands in one place
behind_same : (xs ys : List Entry) (x y : Entry) (bs cs : List Entry) (p q : Id × Ask) → AreOfNoStep xs → AreOfNoStep ys → entry_ask x ≡ Some p → entry_ask y ≡ Some q
    → xs ++ x ∷ bs ≡ ys ++ y ∷ cs → bs ≡ cs
behind_same [] [] x y bs cs p q none other asked answered same = cc same
behind_same [] (y1 ∷ ys) x y bs cs p q none other asked answered same = absurd (cc (same, other.0, asked))
behind_same (x1 ∷ xs) [] x y bs cs p q none other asked answered same = absurd (cc (same, none.0, answered))
behind_same (x1 ∷ xs) (y1 ∷ ys) x y bs cs p q none other asked answered same = behind_same xs ys x y bs cs p q none.1 other.1 asked answered (cc same)

-- what a lookup notes after what it found
module _ (id : Id) (item : Item) (head : Head) where
  away_reads : (held : Option Buffered) → AreOwnReads id (reading_away id item head held).entries
  away_reads None = tt
  away_reads (Some held) = (refl, (refl, tt))

  at_reads : (label : Option Label) (held : Option Buffered) → AreOwnReads id (reading_at id item head label held).entries
  at_reads None held = tt
  at_reads (Some label) held = away_reads held

reading_reads : (c : Cache) (desk : Desk) (id : Id) (key : List ℕ) (look : Look) (live : Option Item) → AreOwnReads id (reading_of c desk id key look live).entries
reading_reads c desk id key look None = tt
reading_reads c desk id key look (Some item) =
    cond_both look.value _ _ (λ (reading : Reading). AreOwnReads id reading.entries)
    (λ wanted. at_reads id item (head_of_item c look item) item.label (buffered desk key)) (λ unwanted. tt)

-- what a step notes
record IsWhole (id : Id) (ask : Ask) (es : List Entry) : Type 0 where
  front : List Entry
  own : Entry
  behind : List Entry
  whole : es ≡ front ++ own ∷ behind
  none : AreOfNoStep front
  asked : entry_ask own ≡ Some (id, ask)
  reads : AreOwnReads id behind

swept_none : (c : Cache) (desk : Desk) (key : List ℕ) (cause : Option DropCause) → AreOfNoStep (sweep_step c desk key cause).entries
swept_none c desk key None = tt
swept_none c desk key (Some cause) = (refl, tt)

module _ (c : Cache) (desk : Desk) (id : Id) (ask : Ask) where
  after_sweep : (key : List ℕ) (own : Entry) (behind es : List Entry) → es ≡ (sweep c desk key).entries ++ own ∷ behind → entry_ask own ≡ Some (id, ask) → AreOwnReads id behind → IsWhole id ask es
  after_sweep key own behind es whole asked reads = record {
    front = (sweep c desk key).entries;
    own = own;
    behind = behind;
    whole = whole;
    none = swept_none c desk key (sweep_cause c desk key);
    asked = asked;
    reads = reads;
  }

ask_whole : (g : Geometry) (c : Cache) (desk : Desk) (id : Id) (ask : Ask) → IsWhole id ask (ask_call g c desk id ask).entries
ask_whole g c desk id (asks.Look key look) =
    let swept = sweep c desk key in
    let live = finite.get swept.cache.items key in
    after_sweep c desk id (asks.Look key look) key (entries.Looked id key look (residence_of live)) (reading_of swept.cache swept.desk id key look live).entries
    (ask_call g c desk id (asks.Look key look)).entries refl refl (reading_reads swept.cache swept.desk id key look live)
ask_whole g c desk id (asks.Store put) =
    after_sweep c desk id (asks.Store put) put.key (entries.Did id (deeds.Store put (store_call g c desk id put).answer)) [] (ask_call g c desk id (asks.Store put)).entries refl refl tt
ask_whole g c desk id (asks.Delete key compare) =
    after_sweep c desk id (asks.Delete key compare) key (entries.Did id (deeds.Delete key compare (delete_call c desk id key compare).answer)) [] (ask_call g c desk id (asks.Delete key compare)).entries refl refl tt
ask_whole g c desk id (asks.Sum ask) =
    after_sweep c desk id (asks.Sum ask) ask.key (entries.Did id (deeds.Sum ask (sum_call c desk id ask).answer)) [] (ask_call g c desk id (asks.Sum ask)).entries refl refl tt
ask_whole g c desk id (asks.Touch key exptime) =
    after_sweep c desk id (asks.Touch key exptime) key (entries.Did id (deeds.Touch key exptime (touch_call c desk id key exptime).answer)) [] (ask_call g c desk id (asks.Touch key exptime)).entries refl refl tt
ask_whole g c desk id (asks.Flush delay) = record { front = []; own = entries.Did id (deeds.Flush delay); behind = []; whole = refl; none = tt; asked = refl; reads = tt }
ask_whole g c desk id asks.Stats = record { front = []; own = entries.Did id (deeds.Stats (tally_now c desk)); behind = []; whole = refl; none = tt; asked = refl; reads = tt }

-- so what stands behind its own entry is the read of its own value
pub behind_reads : (g : Geometry) (c : Cache) (h : List Entry) (desk : Desk) (id : Id) (ask : Ask) (n : NotesItself g c h id ask (ask_call g c desk id ask)) → AreOwnReads id n.behind
behind_reads g c h desk id ask n =
    let one = ask_whole g c desk id ask in
    subst (AreOwnReads id)
    (behind_same one.front n.more one.own n.own one.behind n.behind (id, ask) (id, ask) one.none n.others one.asked n.asked (sym one.whole ∙ n.whole)) one.reads
