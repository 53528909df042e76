-- What refused steps leave.
use Rattle.std.specs.Prelude.{◌≡◌, ℕ, ℤ, List, Option}
use Rattle.flash_names.specs.declared.geometry.Geometry.{Geometry}
use Rattle.flash_entry.specs.declared.ask.Arith.{Arith}
use Rattle.flash_entry.specs.declared.ask.Put.{Put}
use Rattle.flash_entry.specs.declared.answer.Gone.{Gone}
use Rattle.flash_entry.specs.declared.answer.Gone.TheVariants as gone
use Rattle.flash_entry.specs.declared.answer.Stored.{Stored}
use Rattle.flash_entry.specs.declared.answer.Stored.TheVariants as stored
use Rattle.flash_entry.specs.declared.answer.Sum.{Sum}
use Rattle.flash_entry.specs.declared.answer.Sum.TheVariants as sums
use Rattle.flash_entry.specs.declared.answer.Touched.{Touched}
use Rattle.flash_entry.specs.declared.answer.Touched.TheVariants as touched
use Rattle.flash_machine.specs.Item.{Item}
use Rattle.flash_machine.specs.Cache.{Cache}
use Rattle.flash_machine.specs.Deleting.{delete_step}
use Rattle.flash_machine.specs.Storing.{store_step}
use Rattle.flash_machine.specs.Summing.{sum_step}
use Rattle.flash_machine.specs.Touching.{touch_step}

-- the answers that refuse
abbrev pub IsUnstored : Stored → Type 0
IsUnstored (stored.Stored cas) = ⊥
IsUnstored _ = Unit {0}

abbrev pub IsUndeleted : Gone → Type 0
IsUndeleted gone.Deleted = ⊥
IsUndeleted _ = Unit {0}

abbrev pub IsUncounted : Sum → Type 0
IsUncounted (sums.Now summed) = ⊥
IsUncounted (sums.Created summed) = ⊥
IsUncounted _ = Unit {0}

abbrev pub IsUntouched : Touched → Type 0
IsUntouched touched.Touched = ⊥
IsUntouched touched.NotFound = Unit {0}

-- a refused step leaves the cache, with each of its items
abbrev pub ARefusedStoreChangesNothing : Type 0
ARefusedStoreChangesNothing = (g : Geometry) (c : Cache) (put : Put) (live : Option Item)
    → IsUnstored (store_step g c put live).0 → (store_step g c put live).1 ≡ c

abbrev pub ARefusedDeleteChangesNothing : Type 0
ARefusedDeleteChangesNothing = (c : Cache) (key : List ℕ) (compare : Option ℕ) (live : Option Item)
    → IsUndeleted (delete_step c key compare live).0 → (delete_step c key compare live).1 ≡ c

abbrev pub RefusedArithmeticChangesNothing : Type 0
RefusedArithmeticChangesNothing = (c : Cache) (ask : Arith) (live : Option Item)
    → IsUncounted (sum_step c ask live).0 → (sum_step c ask live).1 ≡ c

abbrev pub ARefusedTouchChangesNothing : Type 0
ARefusedTouchChangesNothing = (c : Cache) (key : List ℕ) (exptime : ℤ) (live : Option Item)
    → IsUntouched (touch_step c key exptime live).0 → (touch_step c key exptime live).1 ≡ c
