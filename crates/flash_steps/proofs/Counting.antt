-- What arithmetic makes of a number.
use Rattle.std.proofs.Common.{◌≡◌, ℕ, ◌+◌, ◌-◌, ◌%◌, ◌^◌, Bool, true, false, List, Option, None, Some, if◌then◌else◌, refl, ◌∙◌, ap, subst, arith}
use Rattle.std.specs.Prelude.{nat_le}
use Rattle.flash_entry.specs.declared.ask.Arith.{Arith}
use Rattle.flash_entry.specs.declared.ask.Create.{Create}
use Rattle.flash_entry.specs.declared.answer.Summed.{Summed}
use Rattle.flash_entry.specs.declared.answer.Sum.{Sum}
use Rattle.flash_entry.specs.declared.answer.Sum.TheVariants as sums
use Rattle.flash_machine.specs.Item.{Item}
use Rattle.flash_machine.specs.Cache.{Cache}
use Rattle.flash_machine.specs.Moments.{deadline}
use Rattle.flash_machine.specs.Storing.{last_number, with_stored}
use Rattle.flash_machine.specs.Looking.{deadline_after}
use Rattle.flash_machine.specs.Deleting.{compare_fails}
use Rattle.flash_machine.specs.Summing.{number_in, changed_number, number_item, summed_of, sum_created, sum_changed}
use Rattle.flash_steps.specs.Others.{OthersStay}
use Rattle.flash_steps.specs.Counted.{HoldsNumber, IsCounted, ANumberIsCountedOn, ANumberIsCreatedAsAsked}
use Rattle.flash_index.proofs.Lookups.{put_here}
use Rattle.flash_steps.proofs.Others.{others_inserted}

-- a number that is stored under a key, as it is told
record IsStored (c : Cache) (key : List ℕ) (flags number : ℕ) (summed : Summed) (new : Cache) : Type 0 where
  told : summed.number ≡ number
  holds : HoldsNumber key flags summed new
  others : OthersStay key c.items new.items

module _ (c : Cache) (key : List ℕ) (flags : ℕ) (until : Option ℕ) (number : ℕ) where
  abbrev item : Item
  item = number_item c flags until number

  stored : IsStored c key flags number (summed_of c item number) (with_stored c key item)
  stored = record {
    told = refl;
    holds = record { item = item; there = put_here c.items key item; value = refl; its_flags = refl; its_cas = refl };
    others = others_inserted key item c.items;
  }

  now_by : (last : Bool) (summed : Summed) → let step : Sum × Cache = if last then (sums.NoNumber, c) else (sums.Now (summed_of c item number), with_stored c key item) in
      step.0 ≡ sums.Now summed → IsStored c key flags number summed step.1
  now_by true summed is = absurd (cc is)
  now_by false summed is = let same : summed_of c item number ≡ summed = cc is in subst (λ (s : Summed). IsStored c key flags number s (with_stored c key item)) same stored

  created_by : (last : Bool) (summed : Summed) → let step : Sum × Cache = if last then (sums.NoNumber, c) else (sums.Created (summed_of c item number), with_stored c key item) in
      step.0 ≡ sums.Created summed → IsStored c key flags number summed step.1
  created_by true summed is = absurd (cc is)
  created_by false summed is = let same : summed_of c item number ≡ summed = cc is in subst (λ (s : Summed). IsStored c key flags number s (with_stored c key item)) same stored

module _ (c : Cache) (ask : Arith) (item : Item) (summed : Summed) where
  up_by : (number : ℕ) → summed.number ≡ changed_number ask.down ask.delta number → ask.down ≡ false → summed.number ≡ (number + ask.delta) % 2 ^ 64
  up_by number told up = told ∙ ap (λ (d : Bool). changed_number d ask.delta number) up

  down_by : (number : ℕ) → summed.number ≡ changed_number ask.down ask.delta number → ask.down ≡ true → summed.number ≡ number - ask.delta
  down_by number told down = told ∙ ap (λ (d : Bool). changed_number d ask.delta number) down

  counted_from : (number : ℕ) (new : Cache) → number_in item ≡ Some number → IsStored c ask.key item.flags (changed_number ask.down ask.delta number) summed new → IsCounted ask item summed c new
  counted_from number new was is = record {
    number = number;
    was = was;
    up = up_by number is.told;
    down = λ down least. let less = down_by number is.told down in omega (arith, less, least);
    stops = λ down most. let less = down_by number is.told down in omega (arith, less, most);
    holds = is.holds;
    others = is.others;
  }

  changed_by : (found : Option ℕ) → number_in item ≡ found → (sum_changed c ask item found).0 ≡ sums.Now summed → IsCounted ask item summed c (sum_changed c ask item found).1
  changed_by None was is = absurd (cc is)
  changed_by (Some number) was is =
      let changed = changed_number ask.down ask.delta number in
      counted_from number _ was
      (now_by c ask.key item.flags (deadline_after ask.renew item.deadline c.now) changed (nat_le last_number c.last_cas) summed is)

  compared_by : (fails : Bool) → let step : Sum × Cache = if fails then (sums.Exists, c) else sum_changed c ask item (number_in item) in
      step.0 ≡ sums.Now summed → IsCounted ask item summed c step.1
  compared_by true is = absurd (cc is)
  compared_by false is = changed_by (number_in item) refl is

pub counted : ANumberIsCountedOn
counted c ask item summed is = compared_by c ask item summed (compare_fails ask.compare item.cas) is

created_as : (c : Cache) (ask : Arith) (create : Create) (summed : Summed) (found : Option Create) → found ≡ Some create → (sum_created c ask.key found).0 ≡ sums.Created summed
    → (summed.number ≡ create.start) × HoldsNumber ask.key 0 summed (sum_created c ask.key found).1
created_as c ask create summed None there is = absurd (cc there)
created_as c ask create summed (Some one) there is =
    let made = created_by c ask.key 0 (deadline one.exptime c.now) one.start (nat_le last_number c.last_cas) summed is in
    let same : one ≡ create = cc there in
    (made.told ∙ ap (λ (o : Create). o.start) same, made.holds)

pub created : ANumberIsCreatedAsAsked
created c ask create summed there is = created_as c ask create summed ask.create there is
