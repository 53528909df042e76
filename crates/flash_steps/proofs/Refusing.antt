-- What refused steps leave.
use Rattle.std.proofs.Common.{◌≡◌, ℕ, Bool, true, false, List, Option, None, Some, if◌then◌else◌, refl}
use Rattle.std.specs.Prelude.{nat_le}
use Rattle.flash_entry.specs.declared.ask.Arith.{Arith}
use Rattle.flash_entry.specs.declared.ask.Create.{Create}
use Rattle.flash_entry.specs.declared.answer.Gone.{Gone}
use Rattle.flash_entry.specs.declared.answer.Gone.TheVariants as gone
use Rattle.flash_entry.specs.declared.answer.Stored.{Stored}
use Rattle.flash_entry.specs.declared.answer.Summed.{Summed}
use Rattle.flash_entry.specs.declared.answer.Sum.{Sum}
use Rattle.flash_entry.specs.declared.answer.Sum.TheVariants as sums
use Rattle.flash_machine.specs.Item.{Item}
use Rattle.flash_machine.specs.Cache.{Cache}
use Rattle.flash_machine.specs.Deleting.{compare_fails, without_item}
use Rattle.flash_machine.specs.Storing.{last_number, refusal, stored_item, store_outcome}
use Rattle.flash_machine.specs.Summing.{number_in, sum_created, sum_changed}
use Rattle.flash_steps.specs.Refused.{IsUnstored, IsUndeleted, IsUncounted, ARefusedStoreChangesNothing, ARefusedDeleteChangesNothing, RefusedArithmeticChangesNothing, ARefusedTouchChangesNothing}

unstored_by : (c : Cache) (key : List ℕ) (item : Item) (r : Option Stored) → IsUnstored (store_outcome r c key item).0 → (store_outcome r c key item).1 ≡ c
unstored_by c key item (Some refusal) refused = refl
unstored_by c key item None refused = absurd refused

pub unstored : ARefusedStoreChangesNothing
unstored g c put live refused = unstored_by c put.key (stored_item c put put.mode live) (refusal g c put live) refused

undeleted_by : (c : Cache) (key : List ℕ) (fails : Bool) → let step : Gone × Cache = if fails then (gone.Exists, c) else (gone.Deleted, without_item c key) in IsUndeleted step.0 → step.1 ≡ c
undeleted_by c key true refused = refl
undeleted_by c key false refused = absurd refused

pub undeleted : ARefusedDeleteChangesNothing
undeleted c key compare None refused = refl
undeleted c key compare (Some item) refused = undeleted_by c key (compare_fails compare item.cas) refused

module _ (c : Cache) (ask : Arith) where
  now_by : (summed : Summed) (next : Cache) (last : Bool) → let step : Sum × Cache = if last then (sums.NoNumber, c) else (sums.Now summed, next) in IsUncounted step.0 → step.1 ≡ c
  now_by summed next true refused = refl
  now_by summed next false refused = absurd refused

  made_by : (summed : Summed) (next : Cache) (last : Bool) → let step : Sum × Cache = if last then (sums.NoNumber, c) else (sums.Created summed, next) in IsUncounted step.0 → step.1 ≡ c
  made_by summed next true refused = refl
  made_by summed next false refused = absurd refused

  created_by : (create : Option Create) → IsUncounted (sum_created c ask.key create).0 → (sum_created c ask.key create).1 ≡ c
  created_by None refused = refl
  created_by (Some create) refused = made_by _ _ (nat_le last_number c.last_cas) refused

  changed_by : (item : Item) (number : Option ℕ) → IsUncounted (sum_changed c ask item number).0 → (sum_changed c ask item number).1 ≡ c
  changed_by item None refused = refl
  changed_by item (Some number) refused = now_by _ _ (nat_le last_number c.last_cas) refused

  compared_by : (item : Item) (fails : Bool) → let step : Sum × Cache = if fails then (sums.Exists, c) else sum_changed c ask item (number_in item) in IsUncounted step.0 → step.1 ≡ c
  compared_by item true refused = refl
  compared_by item false refused = changed_by item (number_in item) refused

pub uncounted : RefusedArithmeticChangesNothing
uncounted c ask None refused = created_by c ask ask.create refused
uncounted c ask (Some item) refused = compared_by c ask item (compare_fails ask.compare item.cas) refused

pub untouched : ARefusedTouchChangesNothing
untouched c key exptime None refused = refl
untouched c key exptime (Some item) refused = absurd refused
