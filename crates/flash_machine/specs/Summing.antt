-- The step of arithmetic on a stored number.
use Rattle.std.specs.Prelude.{ℕ, ◌+◌, ◌-◌, ◌%◌, ◌^◌, Bool, false, nat_le, List, Option, None, Some, is_none, decimal, if◌then◌else◌}
use Rattle.flash_names.specs.Numbers.{number_of}
use Rattle.flash_entry.specs.declared.ask.Arith.{Arith}
use Rattle.flash_entry.specs.declared.ask.Create.{Create}
use Rattle.flash_entry.specs.declared.answer.Summed.{Summed}
use Rattle.flash_entry.specs.declared.answer.Sum.{Sum}
use Rattle.flash_entry.specs.declared.answer.Sum.TheVariants as answers
use Rattle.flash_machine.specs.Moments.{deadline}
use Rattle.flash_machine.specs.Item.{Item}
use Rattle.flash_machine.specs.Cache.{Cache}
use Rattle.flash_machine.specs.Storing.{last_number, with_stored}
use Rattle.flash_machine.specs.Looking.{deadline_after, left_to}
use Rattle.flash_machine.specs.Deleting.{compare_fails}

-- the number that an item holds: its value is in memory, and is 1 to 20 digits of a number below 2^64
abbrev pub number_in : Item → Option ℕ
number_in item = if is_none item.label then number_of item.value else None

-- the number after the change: down it stops at 0, up it wraps at 2^64
abbrev pub changed_number : Bool → ℕ → ℕ → ℕ
changed_number down delta number = if down then number - delta else (number + delta) % 2 ^ 64

-- the item that holds a number in decimal digits
abbrev pub number_item : Cache → ℕ → Option ℕ → ℕ → Item
number_item c flags deadline number = record {
  value = decimal number;
  flags = flags;
  cas = c.last_cas + 1;
  deadline = deadline;
  fetched = false;
  access = c.now;
  label = None;
}

-- what is told of the item that holds a number
abbrev pub summed_of : Cache → Item → ℕ → Summed
summed_of c item number = record { number = number; cas = item.cas; left = left_to item.deadline c.now }

-- the answer and the next cache where an item with this number is stored, unless the last CAS number was given
abbrev pub number_stored : (Summed → Sum) → Cache → List ℕ → Item → ℕ → Sum × Cache
number_stored answer c key item number =
    if nat_le last_number c.last_cas then (answers.NoNumber, c)
    else (answer (summed_of c item number), with_stored c key item)

-- the answer and the next cache where the key has no live item
abbrev pub sum_created : Cache → List ℕ → Option Create → Sum × Cache
sum_created c key None = (answers.NotFound, c)
sum_created c key (Some create) =
    number_stored answers.Created c key (number_item c 0 (deadline create.exptime c.now) create.start) create.start

-- the item with another number, which keeps its flags, and its deadline unless that is renewed
abbrev pub changed_item : Cache → Arith → Item → ℕ → Item
changed_item c ask item number = number_item c item.flags (deadline_after ask.renew item.deadline c.now) number

-- the answer and the next cache, by the number that the live item holds
abbrev pub sum_changed : Cache → Arith → Item → Option ℕ → Sum × Cache
sum_changed c ask item None = (answers.NonNumeric, c)
sum_changed c ask item (Some number) =
    let changed = changed_number ask.down ask.delta number in
    number_stored answers.Now c ask.key (changed_item c ask item changed) changed

-- the answer and the next cache, by the live item under the key
abbrev pub sum_step : Cache → Arith → Option Item → Sum × Cache
sum_step c ask None = sum_created c ask.key ask.create
sum_step c ask (Some item) =
    if compare_fails ask.compare item.cas then (answers.Exists, c) else sum_changed c ask item (number_in item)
