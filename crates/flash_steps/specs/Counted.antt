-- What arithmetic makes of a number.
use Rattle.std.specs.Prelude.{◌≡◌, ◌≤◌, ℕ, ◌+◌, ◌%◌, ◌^◌, true, false, List, None, Some, decimal}
use Rattle.std.specs.FinMap as map
use Rattle.flash_entry.specs.declared.ask.Arith.{Arith}
use Rattle.flash_entry.specs.declared.ask.Create.{Create}
use Rattle.flash_entry.specs.declared.answer.Summed.{Summed}
use Rattle.flash_entry.specs.declared.answer.Sum.TheVariants as sums
use Rattle.flash_machine.specs.Item.{Item}
use Rattle.flash_machine.specs.Cache.{Cache}
use Rattle.flash_machine.specs.Summing.{number_in, sum_step}
use Rattle.flash_steps.specs.Others.{OthersStay}

-- the key's item holds the number in decimal digits, under the CAS number that was told
pub record HoldsNumber (key : List ℕ) (flags : ℕ) (summed : Summed) (c : Cache) : Type 0 where
  pub item : Item
  pub there : map.get c.items key ≡ Some item
  pub value : item.value ≡ decimal summed.number
  pub its_flags : item.flags ≡ flags
  pub its_cas : item.cas ≡ summed.cas

-- up, the number is the sum modulo 2^64; down, it is the difference, or 0 where that would be below it; the item has it
-- from then on, with the flags that it had, and each other key has what it had
pub record IsCounted (ask : Arith) (item : Item) (summed : Summed) (old new : Cache) : Type 0 where
  pub number : ℕ
  pub was : number_in item ≡ Some number
  pub up : ask.down ≡ false → summed.number ≡ (number + ask.delta) % 2 ^ 64
  pub down : ask.down ≡ true → ask.delta ≤ number → summed.number + ask.delta ≡ number
  pub stops : ask.down ≡ true → number ≤ ask.delta → summed.number ≡ 0
  pub holds : HoldsNumber ask.key item.flags summed new
  pub others : OthersStay ask.key old.items new.items

-- arithmetic on a number counts on from it
abbrev pub ANumberIsCountedOn : Type 0
ANumberIsCountedOn = (c : Cache) (ask : Arith) (item : Item) (summed : Summed)
    → (sum_step c ask (Some item)).0 ≡ sums.Now summed → IsCounted ask item summed c (sum_step c ask (Some item)).1

-- where there is no item, a number is stored that was given, with no flags
abbrev pub ANumberIsCreatedAsAsked : Type 0
ANumberIsCreatedAsAsked = (c : Cache) (ask : Arith) (create : Create) (summed : Summed) → ask.create ≡ Some create
    → (sum_step c ask None).0 ≡ sums.Created summed
    → (summed.number ≡ create.start) × HoldsNumber ask.key 0 summed (sum_step c ask None).1
