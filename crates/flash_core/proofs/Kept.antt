-- What a store keeps of its items stays so after each call.
use Rattle.std.proofs.Common.{◌≡◌, ℕ, ◌+◌, ◌^◌, ◌≤◌, Bool, true, false, List, length, Option, None, Some, if◌then◌else◌, refl, sym, subst, arith}
use Rattle.std.specs.Prelude.{max, nat_lt, nat_le}
use Rattle.std.specs.Option.{option_or}
use Rattle.std.specs.FinMap as finite
use Rattle.std.proofs.lemmas.Bool.Decides.{nat_tests}
use Rattle.flash_names.specs.declared.geometry.Geometry.{Geometry}
use Rattle.flash_names.specs.declared.place.Id.{Id}
use Rattle.flash_entry.specs.declared.ask.Mode.{Mode}
use Rattle.flash_entry.specs.declared.ask.Mode.TheVariants.{Set, Add, Replace, Append, Prepend}
use Rattle.flash_entry.specs.declared.ask.Put.{Put}
use Rattle.flash_entry.specs.declared.ask.Look.{Look}
use Rattle.flash_entry.specs.declared.answer.Stored.{Stored}
use Rattle.flash_entry.specs.declared.answer.Stored.TheVariants as answers
use Rattle.flash_entry.specs.declared.entry.DropCause.{DropCause}
use Rattle.flash_machine.specs.Item.{Item}
use Rattle.flash_machine.specs.Cache.{Cache}
use Rattle.flash_machine.specs.Moments.{deadline, last_moment}
use Rattle.flash_machine.specs.Storing.{mode_fails, compare_refusal, size_refusal, stored_value, stored_item, store_outcome, refusal}
use Rattle.flash_machine.specs.Looking.{deadline_after, fetched_item, look_next}
use Rattle.flash_calls.specs.Calls.{store_call}
use Rattle.flash_calls.specs.Lookups.{look_call}
use Rattle.flash_calls.specs.Rooms.{Leaver, drop_if}
use Rattle.flash_calls.specs.Store.{Desk}
use Rattle.flash_calls.specs.Sweeps.{sweep_cause, sweep_step, sweep}
use Rattle.flash_core.specs.Items.{HasDeadline, IsKey, IsKept, AreKept}
use Rattle.flash_core.proofs.Keeping.{kept-removed, kept-inserted}

-- what a store keeps of a cache's items
pub record Keeps (item_max : ℕ) (c : Cache) : Type 0 where
  pub kept : AreKept item_max c.last_cas c.items
  pub within : c.now ≤ last_moment

pub without : (item_max : ℕ) (c : Cache) (k : List ℕ) → Keeps item_max c → Keeps item_max (record c { items = finite.remove c.items k })
without item_max c k keeps = record {
  kept = kept-removed item_max c.last_cas c.items k keeps.kept;
  within = keeps.within;
}

module _ (item_max : ℕ) (c : Cache) (desk : Desk) (keeps : Keeps item_max c) where
  sweep_by : (key : List ℕ) (cause : Option DropCause) → Keeps item_max (sweep_step c desk key cause).cache
  sweep_by key (Some cause) = without item_max c key keeps
  sweep_by key None = keeps

  pub sweep_keeps : (key : List ℕ) → Keeps item_max (sweep c desk key).cache
  sweep_keeps key = sweep_by key (sweep_cause c desk key)

  pub drop_keeps : (leaver : Option Leaver) → Keeps item_max (drop_if c desk leaver).cache
  drop_keeps None = keeps
  drop_keeps (Some leaver) = without item_max c leaver.key keeps

-- a sweep leaves the moment and the last CAS number
moment_by : (c : Cache) (desk : Desk) (key : List ℕ) (cause : Option DropCause) → (sweep_step c desk key cause).cache.now ≡ c.now
moment_by c desk key (Some cause) = refl
moment_by c desk key None = refl

pub moment_swept : (c : Cache) (desk : Desk) (key : List ℕ) → (sweep c desk key).cache.now ≡ c.now
moment_swept c desk key = moment_by c desk key (sweep_cause c desk key)

-- the item that is stored, where there is no refusal
module _ (g : Geometry) (c : Cache) (put : Put) where
  stored_deadline : (mode : Mode) (live : Option Item) → HasDeadline (deadline put.exptime c.now) → ((item : Item) → live ≡ Some item → HasDeadline item.deadline) → HasDeadline (stored_item c put mode live).deadline
  stored_deadline Append (Some item) put_at was = was item refl
  stored_deadline Prepend (Some item) put_at was = was item refl
  stored_deadline Append None put_at was = put_at
  stored_deadline Prepend None put_at was = put_at
  stored_deadline Set live put_at was = put_at
  stored_deadline Add live put_at was = put_at
  stored_deadline Replace live put_at was = put_at

  stored_is : (mode : Mode) (live : Option Item) → ((stored_item c put mode live).cas ≡ c.last_cas + 1) × ((stored_item c put mode live).label ≡ None) × ((stored_item c put mode live).value ≡ stored_value put mode live)
  stored_is Append (Some item) = (refl, refl, refl)
  stored_is Prepend (Some item) = (refl, refl, refl)
  stored_is Append None = (refl, refl, refl)
  stored_is Prepend None = (refl, refl, refl)
  stored_is Set live = (refl, refl, refl)
  stored_is Add live = (refl, refl, refl)
  stored_is Replace live = (refl, refl, refl)

  fits_by : (value : List ℕ) (large : Bool) → nat_lt g.item_max (length value) ≡ large → (if large then Some answers.TooLarge else if nat_le (2 ^ 63) c.last_cas then Some answers.NoNumber else None) ≡ None → length value ≤ g.item_max
  fits_by value true is none = absurd (cc none)
  fits_by value false is none = grind (arith, nat_tests)

  size_by : (compare : Option Stored) (value : List ℕ) → option_or compare (size_refusal g c value) ≡ None → length value ≤ g.item_max
  size_by None value none = fits_by value (nat_lt g.item_max (length value)) refl none
  size_by (Some s) value none = absurd (cc none)

  refused_by : (fails : Bool) (compare : Option Stored) (value : List ℕ) → (if fails then Some answers.NotStored else option_or compare (size_refusal g c value)) ≡ None → length value ≤ g.item_max
  refused_by true compare value none = absurd (cc none)
  refused_by false compare value none = size_by compare value none

  pub stored_fits : (live : Option Item) → refusal g c put live ≡ None → length (stored_value put put.mode live) ≤ g.item_max
  stored_fits live none = refused_by (mode_fails put.mode live) (compare_refusal put.compare live) (stored_value put put.mode live) none

  pub stored_kept : (live : Option Item) → refusal g c put live ≡ None → IsKey put.key → HasDeadline (deadline put.exptime c.now) → ((item : Item) → live ≡ Some item → HasDeadline item.deadline)
      → IsKept g.item_max (c.last_cas + 1) put.key (stored_item c put put.mode live)
  stored_kept live none named put_at was =
      let is = stored_is put.mode live in
      let value = is.2 in
      let fits = stored_fits live none in
      record {
        named = named;
        some = omega (arith, is.0);
        number = omega (arith, is.0);
        deadline = stored_deadline put.mode live put_at was;
        size = subst (λ (v : List ℕ). length v ≤ max g.item_max 20) (sym value) (omega (arith, fits));
      }

  outcome_keeps : (r : Option Stored) (item : Item) → (r ≡ None → IsKept g.item_max (c.last_cas + 1) put.key item) → item.cas ≡ c.last_cas + 1 → Keeps g.item_max c → Keeps g.item_max (store_outcome r c put.key item).1
  outcome_keeps (Some s) item new number keeps = keeps
  outcome_keeps None item new number keeps = record {
    kept = kept-inserted g.item_max c.last_cas c.items put.key item (c.last_cas + 1) (omega arith) (new refl) keeps.kept;
    within = keeps.within;
  }

  pub step_keeps : IsKey put.key → HasDeadline (deadline put.exptime c.now) → Keeps g.item_max c
      → Keeps g.item_max (store_outcome (refusal g c put (finite.get c.items put.key)) c put.key (stored_item c put put.mode (finite.get c.items put.key))).1
  step_keeps named put_at keeps =
      let live = finite.get c.items put.key in
      outcome_keeps (refusal g c put live) (stored_item c put put.mode live)
      (λ none. stored_kept live none named put_at (λ item there. (keeps.kept put.key item there).deadline))
      (stored_is put.mode live).0 keeps

pub store_keeps : (g : Geometry) (c : Cache) (desk : Desk) (id : Id) (put : Put) → IsKey put.key → HasDeadline (deadline put.exptime c.now) → Keeps g.item_max c → Keeps g.item_max (store_call g c desk id put).cache
store_keeps g c desk id put named put_at keeps =
    step_keeps g (sweep c desk put.key).cache put named (subst (λ n. HasDeadline (deadline put.exptime n)) (sym (moment_swept c desk put.key)) put_at) (sweep_keeps g.item_max c desk keeps put.key)

look_by : (item_max : ℕ) (c : Cache) (key : List ℕ) (look : Look) (found : Option Item) → finite.get c.items key ≡ found
    → ((was : Option ℕ) → HasDeadline was → HasDeadline (deadline_after look.renew was c.now)) → Keeps item_max c → Keeps item_max (look_next c key look found)
look_by item_max c key look None there renewed keeps = keeps
look_by item_max c key look (Some item) there renewed keeps =
    let one = keeps.kept key item there in
    record {
      kept = kept-inserted item_max c.last_cas c.items key (fetched_item c look item) c.last_cas (omega arith)
          (record { named = one.named; some = one.some; number = one.number; deadline = renewed item.deadline one.deadline; size = one.size }) keeps.kept;
      within = keeps.within;
    }

pub look_keeps : (item_max : ℕ) (c : Cache) (desk : Desk) (id : Id) (key : List ℕ) (look : Look) → ((was : Option ℕ) → HasDeadline was → HasDeadline (deadline_after look.renew was c.now)) → Keeps item_max c
    → Keeps item_max (look_call c desk id key look).cache
look_keeps item_max c desk id key look renewed keeps =
    let swept = (sweep c desk key).cache in
    look_by item_max swept key look (finite.get swept.items key) refl
    (λ was below. subst (λ n. HasDeadline (deadline_after look.renew was n)) (sym (moment_swept c desk key)) (renewed was below)) (sweep_keeps item_max c desk keeps key)
