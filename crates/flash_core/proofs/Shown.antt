-- What is told of an item that is found.
use Rattle.std.proofs.Common.{◌≡◌, ℕ, ◌≤◌, true, false, List, length, Option, None, Some, refl, sym, ◌∙◌, ap, arith}
use Rattle.flash_entry.specs.declared.ask.Look.{Look}
use Rattle.flash_entry.specs.declared.found.Head.{Head}
use Rattle.flash_items.specs.declared.item.Parts.{Parts}
use Rattle.flash_buffers.specs.BufferTable.{BufferTable}
use Rattle.flash_machine.specs.Item.{Item}
use Rattle.flash_machine.specs.Cache.{Cache}
use Rattle.flash_machine.specs.Looking.{head_of_item}
use Rattle.flash_index.specs.Known.{known_parts}
use Rattle.flash_calls.specs.declared.found.Found.TheVariants as found
use Rattle.flash_core.specs.declared.sought.Sought.{Sought}
use Rattle.flash_core.specs.declared.sought.Sought.TheVariants.{Absent, Leaving, Live}
use Rattle.flash_core.specs.Items.{IsKept, IsShown, known_live}
use Rattle.flash_core.specs.Reading.{bytes_at, found_with, found_in}
use Rattle.flash_core.specs.Sought.{live_of}

-- a live item is the key's
live_there : (sought : Sought) (item : Option Item) (live : Item) → live_of sought item ≡ Some live → item ≡ Some live
live_there Absent item live is = absurd (cc is)
live_there (Leaving id cause) item live is = absurd (cc is)
live_there (Live id) item live is = is

pub live_is_there : (key : List ℕ) (sought : Sought) (item : Option Item) (parts : Option Parts) (one : Parts) → known_live key parts ≡ live_of sought item → parts ≡ Some one → item ≡ Some (known_parts (length key) one)
live_is_there key sought item parts one is at = live_there sought item (known_parts (length key) one) (sym is ∙ ap (known_live key) at)

pub is_shown : (item_max last : ℕ) (key : List ℕ) (parts : Parts) → IsKept item_max last key (known_parts (length key) parts) → item_max ≤ 1047552 → IsShown (length key) parts
is_shown item_max last key parts kept bound = record { deadline = kept.deadline; size = omega (arith, kept.size, bound) }

-- what is told of an item, by whether its value is wanted, and by its bytes, where there are some
module _ (c : Cache) (t : BufferTable) (key : List ℕ) (look : Look) (one : Parts) (head : Head) (is : head ≡ head_of_item c look (known_parts (length key) one)) where
  pub found_unwanted : look.value ≡ false → found.Head head ≡ found_in c t key look (Some one)
  found_unwanted unwanted = rw unwanted (λ j. found.Head (is j))

  pub found_wanted : look.value ≡ true → (bytes : Option (List ℕ)) → bytes_at t (length key) one.body ≡ bytes → found_with head bytes ≡ found_in c t key look (Some one)
  found_wanted wanted bytes at = rw wanted (λ j. found_with (is j) (sym at j))
