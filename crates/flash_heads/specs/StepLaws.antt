-- Each step over the heads of a cache does what it does over the cache.
use Rattle.std.specs.Prelude.{◌≡◌, ◌⊎◌, ℕ, ℤ, List, Option, None, Some}
use Rattle.std.specs.Option.{option_map}
use Rattle.flash_names.specs.declared.place.Label.{Label}
use Rattle.flash_names.specs.declared.geometry.Geometry.{Geometry}
use Rattle.flash_entry.specs.declared.ask.Arith.{Arith}
use Rattle.flash_entry.specs.declared.ask.Look.{Look}
use Rattle.flash_entry.specs.declared.ask.Mode.TheVariants as modes
use Rattle.flash_entry.specs.declared.ask.Put.{Put}
use Rattle.flash_entry.specs.declared.answer.Stored.TheVariants as answers
use Rattle.flash_entry.specs.declared.entry.Entry.{Entry}
use Rattle.flash_machine.specs.Item.{Item}
use Rattle.flash_machine.specs.Cache.{Cache}
use Rattle.flash_machine.specs.Load.{tally_of}
use Rattle.flash_machine.specs.Storing.{refusal, stored_item, store_step}
use Rattle.flash_machine.specs.Looking.{residence_of, look_next, head_of_item}
use Rattle.flash_machine.specs.Deleting.{without_item, delete_step}
use Rattle.flash_machine.specs.Summing.{number_in, sum_step}
use Rattle.flash_machine.specs.Touching.{touch_step, flush_next}
use Rattle.flash_machine.specs.Steps.{clock_next}
use Rattle.flash_heads.specs.Heads.{hidden, heads}

-- a step's answer, and the heads of the cache that it leaves
abbrev pub with_heads : {A : Type 0} → A × Cache → A × Cache
with_heads step = (step.0, heads step.1)

-- a store is refused for the same cause, and else stores the same item
pub record StoresAlike (g : Geometry) (c : Cache) (put : Put) (live : Option Item) : Type 0 where
  pub refused : refusal g (heads c) put (option_map hidden live) ≡ refusal g c put live
  pub stored : refusal g c put live ≡ None
      → stored_item (heads c) put put.mode (option_map hidden live) ≡ stored_item c put put.mode live
  pub step : store_step g (heads c) put (option_map hidden live) ≡ with_heads (store_step g c put live)

-- each store answers the same over the heads, and leaves the heads of what it leaves
abbrev pub EachStoreIsThatOfTheHeads : Type 0
EachStoreIsThatOfTheHeads = (g : Geometry) (c : Cache) (put : Put) (live : Option Item) → StoresAlike g c put live

-- no value is joined to one on flash: `Append` and `Prepend` refuse that
abbrev pub NoValueOnFlashIsJoined : Type 0
NoValueOnFlashIsJoined =
    (g : Geometry) (c : Cache) (put : Put) (item : Item) (label : Label) → item.label ≡ Some label
    → (put.mode ≡ modes.Append) ⊎ (put.mode ≡ modes.Prepend)
    → refusal g c put (Some item) ≡ Some answers.NotStored

-- a lookup finds the same and tells the same, and leaves the heads of what it leaves
pub record LooksAlike (c : Cache) (key : List ℕ) (look : Look) (live : Option Item) : Type 0 where
  pub found : residence_of (option_map hidden live) ≡ residence_of live
  pub told : (item : Item) → head_of_item (heads c) look (hidden item) ≡ head_of_item c look item
  pub next : look_next (heads c) key look (option_map hidden live) ≡ heads (look_next c key look live)

-- each lookup does so
abbrev pub EachLookupIsThatOfTheHeads : Type 0
EachLookupIsThatOfTheHeads =
    (c : Cache) (key : List ℕ) (look : Look) (live : Option Item) → LooksAlike c key look live

-- a drop leaves the heads of what it leaves
abbrev pub EachDropIsThatOfTheHeads : Type 0
EachDropIsThatOfTheHeads = (c : Cache) (key : List ℕ) → without_item (heads c) key ≡ heads (without_item c key)

-- each delete answers the same over the heads, and leaves the heads of what it leaves
abbrev pub EachDeleteIsThatOfTheHeads : Type 0
EachDeleteIsThatOfTheHeads =
    (c : Cache) (key : List ℕ) (compare : Option ℕ) (live : Option Item)
    → delete_step (heads c) key compare (option_map hidden live) ≡ with_heads (delete_step c key compare live)

-- an item's head has the same number
abbrev pub EachHeadHasItsNumber : Type 0
EachHeadHasItsNumber = (item : Item) → number_in (hidden item) ≡ number_in item

-- a value on flash is no number
abbrev pub NoValueOnFlashIsANumber : Type 0
NoValueOnFlashIsANumber = (item : Item) (label : Label) → item.label ≡ Some label → number_in item ≡ None

-- all arithmetic answers the same over the heads, and leaves the heads of what it leaves
abbrev pub EachSumIsThatOfTheHeads : Type 0
EachSumIsThatOfTheHeads =
    (c : Cache) (ask : Arith) (live : Option Item)
    → sum_step (heads c) ask (option_map hidden live) ≡ with_heads (sum_step c ask live)

-- each touch answers the same over the heads, and leaves the heads of what it leaves
abbrev pub EachTouchIsThatOfTheHeads : Type 0
EachTouchIsThatOfTheHeads =
    (c : Cache) (key : List ℕ) (exptime : ℤ) (live : Option Item)
    → touch_step (heads c) key exptime (option_map hidden live) ≡ with_heads (touch_step c key exptime live)

-- each flush leaves the heads of what it leaves
abbrev pub EachFlushIsThatOfTheHeads : Type 0
EachFlushIsThatOfTheHeads = (c : Cache) (delay : ℤ) → flush_next (heads c) delay ≡ heads (flush_next c delay)

-- each reading of the clock leaves the heads of what it leaves
abbrev pub EachClockIsThatOfTheHeads : Type 0
EachClockIsThatOfTheHeads = (c : Cache) (moment : ℕ) → clock_next (heads c) moment ≡ heads (clock_next c moment)

-- the numbers that a store tells of itself are the same
abbrev pub EachTallyIsThatOfTheHeads : Type 0
EachTallyIsThatOfTheHeads = (g : Geometry) (h : List Entry) (c : Cache) → tally_of g h (heads c) ≡ tally_of g h c
