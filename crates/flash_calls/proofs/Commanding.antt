-- What a store keeps goes on by the commands on one key.
use Rattle.std.proofs.Common.{◌≡◌, ℕ, ℤ, Bool, true, false, List, [], ◌∷◌, ◌++◌, Option, None, Some, length, if◌then◌else◌, inl, inr, refl, sym, subst, append_assoc}
use Rattle.std.specs.Prelude.{nat_le, nat_lt, nat_eq}
use Rattle.std.specs.Option.{option_or}
use Rattle.std.specs.FinMap as finite
use Rattle.std.proofs.lemmas.Bool.{and_from}
use Rattle.std.proofs.lemmas.Cmp.{int_eq_equiv}
use Rattle.flash_names.specs.declared.place.Id.{Id}
use Rattle.flash_names.specs.declared.geometry.Geometry.{Geometry}
use Rattle.flash_entry.specs.declared.ask.Arith.{Arith}
use Rattle.flash_entry.specs.declared.ask.Create.{Create}
use Rattle.flash_entry.specs.declared.ask.Put.{Put}
use Rattle.flash_entry.specs.declared.answer.Gone.{Gone}
use Rattle.flash_entry.specs.declared.answer.Gone.TheVariants as gone
use Rattle.flash_entry.specs.declared.answer.Stored.{Stored}
use Rattle.flash_entry.specs.declared.answer.Stored.TheVariants as stored
use Rattle.flash_entry.specs.declared.answer.Summed.{Summed}
use Rattle.flash_entry.specs.declared.answer.Sum.{Sum}
use Rattle.flash_entry.specs.declared.answer.Sum.TheVariants as sums
use Rattle.flash_entry.specs.declared.answer.Touched.{Touched}
use Rattle.flash_entry.specs.declared.answer.Touched.TheVariants as touched
use Rattle.flash_entry.specs.declared.entry.DropCause.{DropCause}
use Rattle.flash_entry.specs.declared.entry.Entry.{Entry}
use Rattle.flash_entry.specs.declared.entry.Entry.TheVariants as entries
use Rattle.flash_machine.specs.Item.{Item}
use Rattle.flash_machine.specs.Cache.{Cache}
use Rattle.flash_machine.specs.Live.{live_item}
use Rattle.flash_machine.specs.Moments.{deadline}
use Rattle.flash_machine.specs.Storing.{mode_fails, compare_refusal, refusal, last_number, stored_value, stored_item, with_stored, store_outcome}
use Rattle.flash_machine.specs.Looking.{deadline_after}
use Rattle.flash_machine.specs.Deleting.{compare_fails, without_item, delete_step}
use Rattle.flash_machine.specs.Summing.{number_in, changed_number, number_item, sum_created, sum_changed, sum_step}
use Rattle.flash_machine.specs.Touching.{touch_step}
use Rattle.flash_machine.specs.Steps.{next}
use Rattle.flash_machine.specs.Same.{same_gone, same_summed, same_sum, same_touched}
use Rattle.flash_machine.specs.Legal.{Meets}
use Rattle.flash_machine.specs.NewSteps.{IsNew}
use Rattle.flash_machine.proofs.Meeting.{new_passes, store_meets}
use Rattle.flash_machine.proofs.Same.{number_itself}
use Rattle.flash_calls.specs.Below.{Below}
use Rattle.flash_calls.specs.Calls.{Command, command_call, change_of_store, store_command, change_of_delete, delete_command, change_of_sum, sum_command, touch_command}
use Rattle.flash_calls.specs.Changes.{Change, leaves, stores, desk_after}
use Rattle.flash_calls.specs.Running.{IsRunning, LeavesARun}
use Rattle.flash_calls.specs.Store.{Desk, Call}
use Rattle.flash_calls.specs.Sweeps.{sweep_cause, sweep_step, sweep}
use Rattle.flash_calls.proofs.Goes.{goes_one}
use Rattle.flash_calls.proofs.Holding.{stored_here}
use Rattle.flash_calls.proofs.Running.{LeavesFlash, leaves_itself, without_leaves, change_leaves, leaves_a_run, stands_of}
use Rattle.flash_calls.proofs.Standing.{Stands, IsChange, stands_without, stands_after}
use Rattle.flash_calls.proofs.Sweeping.{Sweeps, sweeps}

-- the key's live item is what the heads have under the key
abbrev pub IsSwept : List Entry → Cache → List ℕ → Type 0
IsSwept h c key = live_item h c key ≡ finite.get c.items key

-- the sweep of a key
module _ (below : Below) (g : Geometry) (h : List Entry) (c : Cache) (desk : Desk) (was : IsRunning g h c desk) (key : List ℕ) where
  abbrev pub swept : Call Bool
  swept = sweep c desk key

  pub sweep_sweeps : Sweeps g h c desk key swept
  sweep_sweeps = sweeps g h c desk key was.placed was.opened was.paged

  sweep_stands : (cause : Option DropCause) → Stands (sweep_step c desk key cause).cache.items (sweep_step c desk key cause).desk
  sweep_stands None = stands_of g h c desk was
  sweep_stands (Some cause) = stands_without below.blocks.order below.lists.put below.lists.removal below.lists.change key c.items desk (stands_of g h c desk was)

  sweep_leaves : (cause : Option DropCause) → LeavesFlash desk (sweep_step c desk key cause).desk
  sweep_leaves None = leaves_itself desk
  sweep_leaves (Some cause) = without_leaves key desk

  pub after_sweep : LeavesARun g h swept
  after_sweep = leaves_a_run below.heads.known below.heads.head g h c desk swept was (record {
    goes = sweep_sweeps.goes;
    quiet = sweep_sweeps.quiet;
    stands = sweep_stands (sweep_cause c desk key);
    leaves = sweep_leaves (sweep_cause c desk key);
  })

-- a call after the sweep, noted behind what the sweep noted
pub behind_sweep : {A : Type 0} (g : Geometry) (h es : List Entry) (call : Call A) → LeavesARun g (h ++ es) call → LeavesARun g h (record call { entries = es ++ call.entries })
behind_sweep g h es call run = subst (λ (j : List Entry). IsRunning g j call.cache call.desk) (append_assoc h es call.entries) run

-- a command's step meets its rules, and makes its change
pub record Follows {A : Type 0} (g : Geometry) (command : Command A) (key : List ℕ) : Type 0 where
  pub meets : (h : List Entry) (c : Cache) (id : Id) → IsNew h id → Meets g h c (entries.Did id (command.deed (command.step c (live_item h c key)).0))
  pub makes : (h : List Entry) (c : Cache) (id : Id) → next g h c (entries.Did id (command.deed (command.step c (live_item h c key)).0)) ≡ (command.step c (live_item h c key)).1
  pub changes : (c : Cache) → IsChange (command.change (command.step c (finite.get c.items key)).0) key c.items (command.step c (finite.get c.items key)).1.items

module _ (below : Below) {A : Type 0} (g : Geometry) (command : Command A) (key : List ℕ) (follows : Follows g command key) where
  -- a command on a key that was swept
  module _ (h : List Entry) (c : Cache) (desk : Desk) (was : IsRunning g h c desk) (id : Id) (new : IsNew h id) (is_swept : IsSwept h c key) where
    abbrev done : A × Cache
    done = command.step c (finite.get c.items key)

    abbrev step_call : Call A
    step_call = record {
      entries = entries.Did id (command.deed done.0) ∷ [];
      cache = done.1;
      desk = desk_after (command.change done.0) key (finite.get done.1.items key) desk;
      answer = done.0;
    }

    step_meets : Meets g h c (entries.Did id (command.deed done.0))
    step_meets = subst (λ (live : Option Item). Meets g h c (entries.Did id (command.deed (command.step c live).0))) is_swept (follows.meets h c id new)

    step_makes : next g h c (entries.Did id (command.deed done.0)) ≡ done.1
    step_makes = subst (λ (live : Option Item). next g h c (entries.Did id (command.deed (command.step c live).0)) ≡ (command.step c live).1) is_swept (follows.makes h c id)

    step_runs : LeavesARun g h step_call
    step_runs = leaves_a_run below.heads.known below.heads.head g h c desk step_call was (record {
      goes = goes_one g h c done.1 (entries.Did id (command.deed done.0)) step_meets step_makes;
      quiet = (tt, tt);
      stands = stands_after below.blocks.order below.lists.put below.lists.removal below.lists.change key c.items desk (stands_of g h c desk was) (command.change done.0) done.1.items (follows.changes c);
      leaves = change_leaves (command.change done.0) key (finite.get done.1.items key) desk;
    })

  pub command_runs : (h : List Entry) (c : Cache) (desk : Desk) (id : Id) → IsRunning g h c desk → IsNew h id → LeavesARun g h (command_call command c desk id key)
  command_runs h c desk id was new =
      let s = sweep c desk key in
      let is = sweep_sweeps below g h c desk was key in
      behind_sweep g h s.entries (step_call (h ++ s.entries) s.cache s.desk (after_sweep below g h c desk was key) id (is.new id new) is.live)
      (step_runs (h ++ s.entries) s.cache s.desk (after_sweep below g h c desk was key) id (is.new id new) is.live)

-- a store
abbrev pub IsRefusal : Option Stored → Type 0
IsRefusal None = Unit {0}
IsRefusal (Some refused) = change_of_store refused ≡ leaves

refused_if : (b : Bool) (one : Stored) (other : Option Stored) → change_of_store one ≡ leaves → IsRefusal other → IsRefusal (if b then Some one else other)
refused_if true one other is rest = is
refused_if false one other is rest = rest

refused_or : (one other : Option Stored) → IsRefusal one → IsRefusal other → IsRefusal (option_or one other)
refused_or None other is rest = rest
refused_or (Some one) other is rest = is

compare_refused : (compare : Option ℕ) (live : Option Item) → IsRefusal (compare_refusal compare live)
compare_refused None live = tt
compare_refused (Some cas) None = refl
compare_refused (Some cas) (Some item) = by_cas (nat_eq item.cas cas)
  where
    by_cas : (b : Bool) → IsRefusal (if b then None else Some stored.Exists)
    by_cas true = tt
    by_cas false = refl

pub refused : (g : Geometry) (c : Cache) (put : Put) (live : Option Item) → IsRefusal (refusal g c put live)
refused g c put live =
    refused_if (mode_fails put.mode live) stored.NotStored _ refl
    (refused_or (compare_refusal put.compare live) _ (compare_refused put.compare live)
    (refused_if (nat_lt g.item_max (length (stored_value put put.mode live))) stored.TooLarge _ refl
    (refused_if (nat_le last_number c.last_cas) stored.NoNumber None refl tt)))

store_changes : (c : Cache) (key : List ℕ) (item : Item) → item.label ≡ None → (r : Option Stored) → IsRefusal r → IsChange (change_of_store (store_outcome r c key item).0) key c.items (store_outcome r c key item).1.items
store_changes c key item here None is = record { item = item; new_is = refl; here = here }
store_changes c key item here (Some one) is = subst (λ (kind : Change). IsChange kind key c.items c.items) (sym is) (inl refl)

pub store_follows : (g : Geometry) (put : Put) → Follows g (store_command g put) put.key
store_follows g put = record {
  meets = λ h c id new. store_meets g h c id put new;
  makes = λ h c id. refl;
  changes = λ c.
      let live = finite.get c.items put.key in
      store_changes c put.key (stored_item c put put.mode live) (stored_here c put put.mode live) (refusal g c put live) (refused g c put live);
}

-- a delete
gone_itself : (answer : Gone) → same_gone answer answer ≡ true
gone_itself gone.Deleted = refl
gone_itself gone.NotFound = refl
gone_itself gone.Exists = refl

module _ (key : List ℕ) (compare : Option ℕ) where
  delete_by : (c : Cache) (fails : Bool)
      → let step : Gone × Cache = if fails then (gone.Exists, c) else (gone.Deleted, without_item c key) in IsChange (change_of_delete step.0) key c.items step.1.items
  delete_by c true = inl refl
  delete_by c false = refl

  delete_changes : (c : Cache) (live : Option Item) → IsChange (change_of_delete (delete_step c key compare live).0) key c.items (delete_step c key compare live).1.items
  delete_changes c None = inl refl
  delete_changes c (Some item) = delete_by c (compare_fails compare item.cas)

  pub delete_follows : (g : Geometry) → Follows g (delete_command key compare) key
  delete_follows g = record {
    meets = λ h c id new. (new_passes h id new, (gone_itself (delete_step c key compare (live_item h c key)).0, tt));
    makes = λ h c id. refl;
    changes = λ c. delete_changes c (finite.get c.items key);
  }

-- arithmetic
summed_itself : (summed : Summed) → same_summed summed summed ≡ true
summed_itself summed =
    and_from _ _ (and_from _ _ (number_itself summed.number) (number_itself summed.cas)) (int_eq_equiv.refl summed.left)

sum_itself : (answer : Sum) → same_sum answer answer ≡ true
sum_itself (sums.Now summed) = summed_itself summed
sum_itself (sums.Created summed) = summed_itself summed
sum_itself sums.NotFound = refl
sum_itself sums.NonNumeric = refl
sum_itself sums.Exists = refl
sum_itself sums.NoNumber = refl

module _ (c : Cache) where
  abbrev IsSumChange : List ℕ → Sum × Cache → Type 0
  IsSumChange key step = IsChange (change_of_sum step.0) key c.items step.1.items

  number_by : (answer : Sum) (key : List ℕ) (item : Item) → change_of_sum answer ≡ stores → item.label ≡ None → (last : Bool)
      → IsSumChange key (if last then (sums.NoNumber, c) else (answer, with_stored c key item))
  number_by answer key item is here true = inl refl
  number_by answer key item is here false =
      subst (λ (kind : Change). IsChange kind key c.items (finite.insert c.items key item)) (sym is) (record { item = item; new_is = refl; here = here })

  created_by : (key : List ℕ) (create : Option Create) → IsSumChange key (sum_created c key create)
  created_by key None = inl refl
  created_by key (Some create) = number_by _ key (number_item c 0 (deadline create.exptime c.now) create.start) refl refl (nat_le last_number c.last_cas)

  changed_by : (ask : Arith) (item : Item) (number : Option ℕ) → IsSumChange ask.key (sum_changed c ask item number)
  changed_by ask item None = inl refl
  changed_by ask item (Some number) =
      number_by _ ask.key (number_item c item.flags (deadline_after ask.renew item.deadline c.now) (changed_number ask.down ask.delta number)) refl refl (nat_le last_number c.last_cas)

  compared_by : (ask : Arith) (item : Item) (fails : Bool) → IsSumChange ask.key (if fails then (sums.Exists, c) else sum_changed c ask item (number_in item))
  compared_by ask item true = inl refl
  compared_by ask item false = changed_by ask item (number_in item)

  sum_changes : (ask : Arith) (live : Option Item) → IsSumChange ask.key (sum_step c ask live)
  sum_changes ask None = created_by ask.key ask.create
  sum_changes ask (Some item) = compared_by ask item (compare_fails ask.compare item.cas)

pub sum_follows : (g : Geometry) (ask : Arith) → Follows g (sum_command ask) ask.key
sum_follows g ask = record {
  meets = λ h c id new. (new_passes h id new, (sum_itself (sum_step c ask (live_item h c ask.key)).0, tt));
  makes = λ h c id. refl;
  changes = λ c. sum_changes c ask (finite.get c.items ask.key);
}

-- a touch
touched_itself : (answer : Touched) → same_touched answer answer ≡ true
touched_itself touched.Touched = refl
touched_itself touched.NotFound = refl

module _ (key : List ℕ) (exptime : ℤ) where
  touch_changes : (c : Cache) (live : Option Item) → finite.get c.items key ≡ live → IsChange leaves key c.items (touch_step c key exptime live).1.items
  touch_changes c None there = inl refl
  touch_changes c (Some item) there = inr (record {
    was = item;
    now = record item { deadline = deadline exptime c.now };
    there = there;
    new_is = refl;
    value = refl;
    label = refl;
  })

  pub touch_follows : (g : Geometry) → Follows g (touch_command key exptime) key
  touch_follows g = record {
    meets = λ h c id new. (new_passes h id new, (touched_itself (touch_step c key exptime (live_item h c key)).0, tt));
    makes = λ h c id. refl;
    changes = λ c. touch_changes c (finite.get c.items key) refl;
  }
