-- What a store keeps, whatever is done with it.
use Rattle.std.specs.Prelude.{◌≡◌, ℕ, ◌≤◌, List, Option}
use Rattle.std.specs.Option.{ForSome}
use Rattle.flash_names.specs.declared.place.Id.{Id}
use Rattle.flash_names.specs.declared.geometry.Geometry.{Geometry}
use Rattle.flash_names.specs.Geometry.{Passes}
use Rattle.flash_entry.specs.declared.entry.Entry.{Entry}
use Rattle.flash_machine.specs.Cache.{Cache}
use Rattle.flash_machine.specs.Moments.{last_moment}
use Rattle.flash_machine.specs.NewSteps.{IsNew}
use Rattle.flash_heads.specs.KnownRun.{IsKnownRun}
use Rattle.flash_calls.specs.Running.{IsRunning}
use Rattle.flash_calls.specs.Store.{Desk}
use Rattle.flash_core.specs.Items.{AreKept}

-- where the journal tells its entries, they are a run of the one-thread cache, which is known by these heads
abbrev pub IsToldRun : Geometry → Cache → Option (List Entry) → Type 0
IsToldRun g c told = ForSome told (IsKnownRun g c)

-- where the journal tells its entries, the step's number is new
abbrev pub IsNewTold : Option (List Entry) → Id → Type 0
IsNewTold told id = ForSome told (λ h. IsNew h id)

-- there is a run with these heads and this desk: the journal's entries, where it tells them; a journal that tells
-- nothing may have had steps of other numbers
pub record HasRun (g : Geometry) (c : Cache) (desk : Desk) (told : Option (List Entry)) : Type 0 where
  pub run : List Entry
  pub runs : IsRunning g run c desk
  pub is_told : ForSome told (λ h. h ≡ run)

-- whatever is done with it, a store has a geometry that keeps its rules, items as they have to be, a moment within the
-- clock's, three lists with their shares of the geometry's memory, and a run with its heads and its desk
pub record IsSound (g : Geometry) (memory : ℕ) (c : Cache) (desk : Desk) (told : Option (List Entry)) : Type 0 where
  pub passes : Passes g
  pub kept : AreKept g.item_max c.last_cas c.items
  pub within : c.now ≤ last_moment
  pub shares : memory ≡ g.memory
  pub runs : HasRun g c desk told
