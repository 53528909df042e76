-- What a store keeps of its items stays so after each command.
use Rattle.std.proofs.Common.{◌≡◌, ℕ, ℤ, ◌+◌, ◌^◌, ◌<◌, ◌≤◌, Bool, true, false, ◌&&◌, List, length, Option, None, Some, if◌then◌else◌, refl, sym, subst, arith}
use Rattle.std.specs.Prelude.{nat_le, nat_lt, is_none, decimal}
use Rattle.std.specs.FinMap as finite
use Rattle.std.proofs.lemmas.Bool.Decides.{nat_tests}
use Rattle.std.proofs.lemmas.Fmt.{length-decimal-le}
use Rattle.flash_names.specs.Numbers.{value_from, if_below, number_of}
use Rattle.flash_names.specs.declared.place.Id.{Id}
use Rattle.flash_entry.specs.declared.ask.Arith.{Arith}
use Rattle.flash_entry.specs.declared.ask.Create.{Create}
use Rattle.flash_entry.specs.declared.answer.Gone.{Gone}
use Rattle.flash_entry.specs.declared.answer.Gone.TheVariants as gone
use Rattle.flash_entry.specs.declared.answer.Summed.{Summed}
use Rattle.flash_entry.specs.declared.answer.Sum.{Sum}
use Rattle.flash_entry.specs.declared.answer.Sum.TheVariants as sums
use Rattle.flash_machine.specs.Item.{Item}
use Rattle.flash_machine.specs.Cache.{Cache}
use Rattle.flash_machine.specs.Moments.{deadline}
use Rattle.flash_machine.specs.Storing.{last_number}
use Rattle.flash_machine.specs.Looking.{deadline_after}
use Rattle.flash_machine.specs.Deleting.{compare_fails, delete_step, without_item}
use Rattle.flash_machine.specs.Summing.{number_in, changed_number, number_item, number_stored, sum_created, sum_changed, sum_step}
use Rattle.flash_machine.specs.Touching.{touch_step, flush_at, flush_next}
use Rattle.flash_calls.specs.Calls.{delete_call, sum_call, touch_call}
use Rattle.flash_calls.specs.Store.{Desk}
use Rattle.flash_calls.specs.Sweeps.{sweep}
use Rattle.flash_core.specs.Counting.{MaySet}
use Rattle.flash_core.specs.Items.{HasDeadline, IsKey, IsKept}
use Rattle.flash_core.proofs.Keeping.{kept-inserted}
use Rattle.flash_core.proofs.Kept.{Keeps, without, sweep_keeps, moment_swept}

-- a number that was read is below 2^64
below_by : (limit n number : ℕ) (fits : Bool) → nat_lt n limit ≡ fits → (if fits then Some n else None) ≡ Some number → number < limit
below_by limit n number true is read = let same : n ≡ number = cc read in grind (arith, nat_tests)
below_by limit n number false is read = absurd (cc read)

if_below-is : (limit : ℕ) (found : Option ℕ) (number : ℕ) → if_below limit found ≡ Some number → number < limit
if_below-is limit None number is = absurd (cc is)
if_below-is limit (Some n) number is = below_by limit n number (nat_lt n limit) refl is

number_by : (bytes : List ℕ) (sized : Bool) (number : ℕ) → (if sized then if_below (2 ^ 64) (value_from 0 bytes) else None) ≡ Some number → number < 2 ^ 64
number_by bytes true number is = if_below-is (2 ^ 64) (value_from 0 bytes) number is
number_by bytes false number is = absurd (cc is)

in_by : (item : Item) (here : Bool) (number : ℕ) → (if here then number_of item.value else None) ≡ Some number → number < 2 ^ 64
in_by item true number is = number_by item.value (nat_le 1 (length item.value) && nat_le (length item.value) 20) number is
in_by item false number is = absurd (cc is)

changed_below : (down : Bool) (delta number : ℕ) → number < 2 ^ 64 → changed_number down delta number < 2 ^ 64
changed_below true delta number below = omega (arith, below)
changed_below false delta number below = omega arith

module _ (item_max : ℕ) (c : Cache) (keeps : Keeps item_max c) where
  -- a delete's step
  delete_one : (key : List ℕ) (fails : Bool) → let step : Gone × Cache = if fails then (gone.Exists, c) else (gone.Deleted, without_item c key) in Keeps item_max step.1
  delete_one key true = keeps
  delete_one key false = without item_max c key keeps

  delete_by : (key : List ℕ) (compare : Option ℕ) (live : Option Item) → Keeps item_max (delete_step c key compare live).1
  delete_by key compare None = keeps
  delete_by key compare (Some item) = delete_one key (compare_fails compare item.cas)

  -- the step of arithmetic
  number_kept : (key : List ℕ) (flags : ℕ) (until : Option ℕ) (number : ℕ) → IsKey key → HasDeadline until → number < 2 ^ 64 → IsKept item_max (c.last_cas + 1) key (number_item c flags until number)
  number_kept key flags until number named within below =
      let digits : length (decimal number) ≤ 20 = length-decimal-le 20 number (omega arith) (omega (arith, below)) below in
      record {
        named = named;
        some = omega arith;
        number = omega arith;
        deadline = within;
        size = omega (arith, digits);
      }

  stored_by : (answer : Summed → Sum) (key : List ℕ) (flags : ℕ) (until : Option ℕ) (number : ℕ) (last : Bool) → IsKey key → HasDeadline until → number < 2 ^ 64 → nat_le last_number c.last_cas ≡ last
      → Keeps item_max (number_stored answer c key (number_item c flags until number) number).1
  stored_by answer key flags until number true named within below is = rw is keeps
  stored_by answer key flags until number false named within below is = rw is (record {
    kept = kept-inserted item_max c.last_cas c.items key (number_item c flags until number) (c.last_cas + 1) (omega arith) (number_kept key flags until number named within below) keeps.kept;
    within = keeps.within;
  })

  created_by : (ask : Arith) (create : Option Create) → ask.create ≡ create → IsKey ask.key → MaySet ask c.now → Keeps item_max (sum_created c ask.key create).1
  created_by ask None is named may = keeps
  created_by ask (Some create) is named may =
      let set = may.created create is in
      stored_by sums.Created ask.key 0 (deadline create.exptime c.now) create.start (nat_le last_number c.last_cas) named set.0 set.1 refl

  changed_by : (ask : Arith) (item : Item) (number : Option ℕ) → number_in item ≡ number → IsKey ask.key → HasDeadline item.deadline → MaySet ask c.now → Keeps item_max (sum_changed c ask item number).1
  changed_by ask item None is named was may = keeps
  changed_by ask item (Some number) is named was may =
      stored_by sums.Now ask.key item.flags (deadline_after ask.renew item.deadline c.now) (changed_number ask.down ask.delta number) (nat_le last_number c.last_cas) named
      (may.renewed item.deadline was) (changed_below ask.down ask.delta number (in_by item (is_none item.label) number is)) refl

  compared_by : (ask : Arith) (item : Item) (fails : Bool) → IsKey ask.key → HasDeadline item.deadline → MaySet ask c.now
      → let step : Sum × Cache = if fails then (sums.Exists, c) else sum_changed c ask item (number_in item) in Keeps item_max step.1
  compared_by ask item true named was may = keeps
  compared_by ask item false named was may = changed_by ask item (number_in item) refl named was may

  sum_by : (ask : Arith) (live : Option Item) → finite.get c.items ask.key ≡ live → IsKey ask.key → MaySet ask c.now → Keeps item_max (sum_step c ask live).1
  sum_by ask None there named may = created_by ask ask.create refl named may
  sum_by ask (Some item) there named may = compared_by ask item (compare_fails ask.compare item.cas) named (keeps.kept ask.key item there).deadline may

  -- a touch's step
  touch_by : (key : List ℕ) (exptime : ℤ) (live : Option Item) → finite.get c.items key ≡ live → HasDeadline (deadline exptime c.now) → Keeps item_max (touch_step c key exptime live).1
  touch_by key exptime None there below = keeps
  touch_by key exptime (Some item) there below =
      let one = keeps.kept key item there in
      let touched : Item = record item { deadline = deadline exptime c.now } in
      record {
        kept = kept-inserted item_max c.last_cas c.items key touched c.last_cas (omega arith)
            (record { named = one.named; some = one.some; number = one.number; deadline = below; size = one.size }) keeps.kept;
        within = keeps.within;
      }

  -- a flush
  at_by : (moment : ℕ) (reached : Bool) → nat_le moment c.now ≡ reached → Keeps item_max (flush_at c (Some moment))
  at_by moment true is = rw is (record { kept = keeps.kept; within = keeps.within })
  at_by moment false is = rw is (record { kept = keeps.kept; within = keeps.within })

  flush_by : (moment : Option ℕ) → Keeps item_max (flush_at c moment)
  flush_by None = record { kept = keeps.kept; within = keeps.within }
  flush_by (Some moment) = at_by moment (nat_le moment c.now) refl

  pub flush_keeps : (delay : ℤ) → Keeps item_max (flush_next c delay)
  flush_keeps delay = flush_by (deadline delay c.now)

module _ (item_max : ℕ) (c : Cache) (desk : Desk) (keeps : Keeps item_max c) (id : Id) where
  pub delete_keeps : (key : List ℕ) (compare : Option ℕ) → Keeps item_max (delete_call c desk id key compare).cache
  delete_keeps key compare =
      let swept = (sweep c desk key).cache in
      delete_by item_max swept (sweep_keeps item_max c desk keeps key) key compare (finite.get swept.items key)

  pub sum_keeps : (ask : Arith) → IsKey ask.key → MaySet ask c.now → Keeps item_max (sum_call c desk id ask).cache
  sum_keeps ask named may =
      let swept = (sweep c desk ask.key).cache in
      sum_by item_max swept (sweep_keeps item_max c desk keeps ask.key) ask (finite.get swept.items ask.key) refl named
      (subst (MaySet ask) (sym (moment_swept c desk ask.key)) may)

  pub touch_keeps : (key : List ℕ) (exptime : ℤ) → HasDeadline (deadline exptime c.now) → Keeps item_max (touch_call c desk id key exptime).cache
  touch_keeps key exptime below =
      let swept = (sweep c desk key).cache in
      touch_by item_max swept (sweep_keeps item_max c desk keeps key) key exptime (finite.get swept.items key) refl
      (subst (λ n. HasDeadline (deadline exptime n)) (sym (moment_swept c desk key)) below)
