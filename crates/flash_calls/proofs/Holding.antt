-- The buffers still hold the records through entries that leave the flash.
use Rattle.std.proofs.Common.{◌≡◌, ◌⊎◌, ℕ, ℤ, Bool, true, false, cond, List, if◌then◌else◌, [], ◌∷◌, ◌++◌, Option, None, Some, inl, inr, refl, sym, ◌∙◌, ap, subst}
use Rattle.std.specs.Prelude.{nat_le}
use Rattle.std.specs.FinMap as finite
use Rattle.flash_names.specs.declared.geometry.Geometry.{Geometry}
use Rattle.flash_names.specs.declared.place.Place.{Place}
use Rattle.flash_entry.specs.declared.ask.Arith.{Arith}
use Rattle.flash_entry.specs.declared.ask.Create.{Create}
use Rattle.flash_entry.specs.declared.ask.Look.{Look}
use Rattle.flash_entry.specs.declared.ask.Mode.{Mode}
use Rattle.flash_entry.specs.declared.ask.Mode.TheVariants as modes
use Rattle.flash_entry.specs.declared.ask.Put.{Put}
use Rattle.flash_entry.specs.declared.answer.Gone.TheVariants as gone
use Rattle.flash_entry.specs.declared.answer.Stored.{Stored}
use Rattle.flash_entry.specs.declared.answer.Summed.{Summed}
use Rattle.flash_entry.specs.declared.answer.Sum.{Sum}
use Rattle.flash_entry.specs.declared.answer.Sum.TheVariants as sums
use Rattle.flash_entry.specs.declared.entry.Done.{Done}
use Rattle.flash_entry.specs.declared.entry.Done.TheVariants as deeds
use Rattle.flash_entry.specs.declared.entry.Entry.{Entry}
use Rattle.flash_entry.specs.declared.entry.Entry.TheVariants as entries
use Rattle.flash_machine.specs.Item.{Item}
use Rattle.flash_machine.specs.Cache.{Cache, Items}
use Rattle.flash_machine.specs.Moments.{deadline, is_reached}
use Rattle.flash_machine.specs.Live.{is_live, passing_item, live_item}
use Rattle.flash_machine.specs.Storing.{last_number, refusal, stored_item, with_stored, store_outcome}
use Rattle.flash_machine.specs.Looking.{deadline_after, fetched_item, look_next}
use Rattle.flash_machine.specs.Deleting.{compare_fails, without_item, delete_step}
use Rattle.flash_machine.specs.Summing.{number_in, changed_number, number_item, summed_of, number_stored, sum_created, sum_changed, sum_step}
use Rattle.flash_machine.specs.Touching.{touch_step, flushed, flush_at, flush_next}
use Rattle.flash_machine.specs.Steps.{clock_next, done_next, next, cache_from}
use Rattle.flash_index.proofs.Lookups.{cases_key, put_here, put_else, cut_here, cut_else}
use Rattle.flash_record.specs.Record.{Parts, parts_with}
use Rattle.flash_pages.specs.Calls.{has_ended}
use Rattle.flash_blocks.specs.BlockTable.{BlockTable}
use Rattle.flash_blocks.specs.Held.{IsHeld}
use Rattle.flash_index.specs.Places.{Places}
use Rattle.flash_calls.specs.Held.{HoldsRecord, KeepsRecords, AreHeld}
use Rattle.flash_calls.proofs.Paging.{SamePages, ended_same}
use Rattle.flash_calls.proofs.Quiet.{IsQuiet, AreQuiet}

-- an item with the record of another
pub record SameRecord (was now : Item) : Type 0 where
  pub flags : now.flags ≡ was.flags
  pub cas : now.cas ≡ was.cas
  pub value : now.value ≡ was.value
  pub label : now.label ≡ was.label

pub record WasThere (items : Items) (key : List ℕ) (now : Item) : Type 0 where
  pub was : Item
  pub there : finite.get items key ≡ Some was
  pub same : SameRecord was now

-- the item is in memory, or was there with the same record
abbrev pub IsHereOrWas : Items → List ℕ → Item → Type 0
IsHereOrWas items key now = (now.label ≡ None) ⊎ WasThere items key now

-- each item of these is
abbrev pub AreHereOrWere : Items → Items → Type 0
AreHereOrWere old new = (key : List ℕ) (item : Item) → finite.get new key ≡ Some item → IsHereOrWas old key item

same_itself : (item : Item) → SameRecord item item
same_itself item = record { flags = refl; cas = refl; value = refl; label = refl }

pub all_were : (items : Items) → AreHereOrWere items items
all_were items key item there = inr (record { was = item; there = there; same = same_itself item })

-- an item that is put under a key, in memory or with the record of the one before
put_were : (items : Items) (key : List ℕ) (now : Item) → IsHereOrWas items key now → AreHereOrWere items (finite.insert items key now)
put_were items key now is q item there = elim (cases_key q key) [
  | inl at ↦
      let one : now ≡ item = cc (sym (put_here items key now) ∙ ap (finite.get (finite.insert items key now)) (sym at) ∙ there) in
      subst (λ (k : List ℕ). IsHereOrWas items k item) (sym at) (subst (λ (i : Item). IsHereOrWas items key i) one is)
  | inr apart ↦ all_were items q item (sym (put_else items key now q apart) ∙ there)
]

cut_were : (items : Items) (key : List ℕ) → AreHereOrWere items (finite.remove items key)
cut_were items key q item there = elim (cases_key q key) [
  | inl at ↦ absurd (cc (sym (cut_here items key) ∙ ap (finite.get (finite.remove items key)) (sym at) ∙ there))
  | inr apart ↦ all_were items q item (sym (cut_else items key q apart) ∙ there)
]

-- a live item is under its key
pub passing_there : (test : Item → Bool) (found : Option Item) (item : Item) → passing_item test found ≡ Some item → found ≡ Some item
passing_there test None item is = is
passing_there test (Some one) item is = passes (test one) is
  where
    passes : (b : Bool) → cond b (Some one) None ≡ Some item → Some one ≡ Some item
    passes true is = is
    passes false is = absurd (cc is)

module _ (c : Cache) where
  -- the step of a store
  pub stored_here : (put : Put) (mode : Mode) (live : Option Item) → (stored_item c put mode live).label ≡ None
  stored_here put modes.Set live = refl
  stored_here put modes.Add live = refl
  stored_here put modes.Replace live = refl
  stored_here put modes.Append None = refl
  stored_here put modes.Append (Some item) = refl
  stored_here put modes.Prepend None = refl
  stored_here put modes.Prepend (Some item) = refl

  store_were : (key : List ℕ) (item : Item) → item.label ≡ None → (r : Option Stored) → AreHereOrWere c.items (store_outcome r c key item).1.items
  store_were key item here None = put_were c.items key item (inl here)
  store_were key item here (Some refused) = all_were c.items

  -- a step that is refused, or isn't
  by_cond : {A : Type 0} (x y : A) (d : Cache) (b : Bool) → AreHereOrWere c.items d.items → let step : A × Cache = if b then (x, c) else (y, d) in AreHereOrWere c.items step.1.items
  by_cond x y d true were = all_were c.items
  by_cond x y d false were = were

  -- a delete's
  delete_were : (key : List ℕ) (compare : Option ℕ) (live : Option Item) → AreHereOrWere c.items (delete_step c key compare live).1.items
  delete_were key compare None = all_were c.items
  delete_were key compare (Some item) = by_cond gone.Exists gone.Deleted (without_item c key) (compare_fails compare item.cas) (cut_were c.items key)

  -- that of arithmetic
  number_were : (answer : Summed → Sum) (key : List ℕ) (flags : ℕ) (until : Option ℕ) (number : ℕ) → AreHereOrWere c.items (number_stored answer c key (number_item c flags until number) number).1.items
  number_were answer key flags until number =
      let item = number_item c flags until number in
      by_cond sums.NoNumber (answer (summed_of c item number)) (with_stored c key item) (nat_le last_number c.last_cas) (put_were c.items key item (inl refl))

  created_were : (key : List ℕ) (create : Option Create) → AreHereOrWere c.items (sum_created c key create).1.items
  created_were key None = all_were c.items
  created_were key (Some create) = number_were sums.Created key 0 (deadline create.exptime c.now) create.start

  changed_were : (ask : Arith) (item : Item) (number : Option ℕ) → AreHereOrWere c.items (sum_changed c ask item number).1.items
  changed_were ask item None = all_were c.items
  changed_were ask item (Some number) = number_were sums.Now ask.key item.flags (deadline_after ask.renew item.deadline c.now) (changed_number ask.down ask.delta number)

  compared_were : (ask : Arith) (item : Item) (b : Bool) → let step : Sum × Cache = if b then (sums.Exists, c) else sum_changed c ask item (number_in item) in AreHereOrWere c.items step.1.items
  compared_were ask item true = all_were c.items
  compared_were ask item false = changed_were ask item (number_in item)

  sum_were : (ask : Arith) (live : Option Item) → AreHereOrWere c.items (sum_step c ask live).1.items
  sum_were ask None = created_were ask.key ask.create
  sum_were ask (Some item) = compared_were ask item (compare_fails ask.compare item.cas)

  -- a touch's, a lookup's
  touch_were : (key : List ℕ) (exptime : ℤ) (live : Option Item) → ((item : Item) → live ≡ Some item → finite.get c.items key ≡ Some item) → AreHereOrWere c.items (touch_step c key exptime live).1.items
  touch_were key exptime None there = all_were c.items
  touch_were key exptime (Some item) there =
      put_were c.items key (record item { deadline = deadline exptime c.now })
      (inr (record { was = item; there = there item refl; same = record { flags = refl; cas = refl; value = refl; label = refl } }))

  look_were : (key : List ℕ) (look : Look) (live : Option Item) → ((item : Item) → live ≡ Some item → finite.get c.items key ≡ Some item) → AreHereOrWere c.items (look_next c key look live).items
  look_were key look None there = all_were c.items
  look_were key look (Some item) there =
      put_were c.items key (fetched_item c look item)
      (inr (record { was = item; there = there item refl; same = record { flags = refl; cas = refl; value = refl; label = refl } }))

  -- a flush and a reading of the clock leave the items
  flushed_at : (moment : ℕ) (b : Bool) → (let d : Cache = if b then flushed c else record c { pending_flush = Some moment } in d).items ≡ c.items
  flushed_at moment true = refl
  flushed_at moment false = refl

  flush_items : (moment : Option ℕ) → (flush_at c moment).items ≡ c.items
  flush_items None = refl
  flush_items (Some moment) = flushed_at moment (nat_le moment c.now)

  clock_by : (moment : ℕ) (b : Bool)
      → (let d : Cache = if b then (record c { now = moment; flush_mark = c.last_cas; pending_flush = None }) else (record c { now = moment }) in d).items ≡ c.items
  clock_by moment true = refl
  clock_by moment false = refl

  pub flush_same : (delay : ℤ) → (flush_next c delay).items ≡ c.items
  flush_same delay = flush_items (deadline delay c.now)

  pub clock_same : (moment : ℕ) → (clock_next c moment).items ≡ c.items
  clock_same moment = clock_by moment (is_reached c.pending_flush moment)

  same_were : (items : Items) → items ≡ c.items → AreHereOrWere c.items items
  same_were items same = subst (λ (m : Items). AreHereOrWere c.items m) (sym same) (all_were c.items)

  -- one entry
  module _ (g : Geometry) (h : List Entry) where
    there_if_live : (key : List ℕ) (item : Item) → live_item h c key ≡ Some item → finite.get c.items key ≡ Some item
    there_if_live key = passing_there (is_live h c) (finite.get c.items key)

    done_were : (done : Done) → AreHereOrWere c.items (done_next g h c done).items
    done_were (deeds.Store put answer) =
        let live = live_item h c put.key in
        store_were put.key (stored_item c put put.mode live) (stored_here put put.mode live) (refusal g c put live)
    done_were (deeds.Delete key compare answer) = delete_were key compare (live_item h c key)
    done_were (deeds.Sum ask answer) = sum_were ask (live_item h c ask.key)
    done_were (deeds.Touch key exptime answer) = touch_were key exptime (live_item h c key) (there_if_live key)
    done_were (deeds.Flush delay) = same_were (flush_next c delay).items (flush_same delay)
    done_were (deeds.Stats tally) = all_were c.items

    entry_were : (e : Entry) → IsQuiet e → AreHereOrWere c.items (next g h c e).items
    entry_were (entries.Clock moment) quiet = same_were (clock_next c moment).items (clock_same moment)
    entry_were (entries.Did id done) quiet = done_were done
    entry_were (entries.Looked id key look residence) quiet = look_were key look (live_item h c key) (there_if_live key)
    entry_were (entries.Dropped key cause) quiet = cut_were c.items key
    entry_were (entries.Moved key cas label) quiet = absurd quiet
    entry_were (entries.Recached key cas) quiet = absurd quiet
    entry_were _ quiet = all_were c.items

-- one step and then another
were_by : (old : Items) (key : List ℕ) (mid now : Item) → SameRecord mid now → IsHereOrWas old key mid → IsHereOrWas old key now
were_by old key mid now same (inl here) = inl (same.label ∙ here)
were_by old key mid now same (inr was) = inr (record {
  was = was.was;
  there = was.there;
  same = record {
    flags = same.flags ∙ was.same.flags;
    cas = same.cas ∙ was.same.cas;
    value = same.value ∙ was.same.value;
    label = same.label ∙ was.same.label;
  };
})

were_both : (old mid new : Items) → AreHereOrWere old mid → AreHereOrWere mid new → AreHereOrWere old new
were_both old mid new one two key item there = elim (two key item there) [
  | inl here ↦ inl here
  | inr was ↦ were_by old key was.was item was.same (one key was.was was.there)
]

pub entries_were : (g : Geometry) (h : List Entry) (c : Cache) (es : List Entry) → AreQuiet es → AreHereOrWere c.items (cache_from g h c es).items
entries_were g h c [] quiet = all_were c.items
entries_were g h c (e ∷ es) quiet =
    were_both c.items (next g h c e).items (cache_from g h c (e ∷ es)).items (entry_were c g h e quiet.0) (entries_were g (h ++ e ∷ []) (next g h c e) es quiet.1)

-- the records are still held
module _ (items new : Items) (places after : Places) (t next : BlockTable) (were : AreHereOrWere items new)
    (fewer : (key : List ℕ) (place : Place) → finite.get after key ≡ Some place → finite.get places key ≡ Some place)
    (labelled : (key : List ℕ) (item : Item) (place : Place) → finite.get new key ≡ Some item → finite.get after key ≡ Some place → item.label ≡ Some place.label)
    (keeps : KeepsRecords t next) (pages : SamePages t.pages next.pages) (held : AreHeld items places t) where
  still_held : (key : List ℕ) (item : Item) (place : Place) → item.label ≡ Some place.label → finite.get after key ≡ Some place → has_ended next.pages place.label ≡ false → IsHereOrWas items key item
      → HoldsRecord next key item place
  still_held key item place label there unended (inl here) = absurd (cc (sym here ∙ label))
  still_held key item place label there unended (inr was) =
      keeps key item place
      (subst (λ (p : Parts). IsHeld t place p)
      (λ j. parts_with key (sym was.same.flags j) (sym was.same.cas j) place.label.version (sym was.same.value j))
      (held key was.was place was.there (fewer key place there) (sym (ended_same t.pages next.pages place.label pages) ∙ unended)))

  pub held_kept : AreHeld new after next
  held_kept key item place there at unended = still_held key item place (labelled key item place there at) at unended (were key item there)
