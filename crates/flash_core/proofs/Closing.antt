-- A store is sound after a call that keeps what it has to keep.
use Rattle.std.proofs.Common.{◌≡◌, ℕ, List, Option, sym, subst}
use Rattle.flash_names.specs.Told.{with_more}
use Rattle.flash_names.specs.declared.place.Id.{Id}
use Rattle.flash_names.specs.declared.geometry.Geometry.{Geometry}
use Rattle.flash_entry.specs.declared.entry.Entry.{Entry}
use Rattle.flash_machine.specs.Cache.{Cache}
use Rattle.flash_machine.specs.NewSteps.{IsNew}
use Rattle.flash_calls.specs.Running.{IsRunning, LeavesARun}
use Rattle.flash_calls.specs.Store.{Desk, Call}
use Rattle.flash_core.specs.Sound.{IsNewTold, HasRun, IsSound}
use Rattle.flash_core.proofs.GoingOn.{goes_on, goes_on_by}
use Rattle.flash_core.proofs.Kept.{Keeps}

pub keeps_of : (g : Geometry) (memory : ℕ) (c : Cache) (desk : Desk) (told : Option (List Entry)) → IsSound g memory c desk told → Keeps g.item_max c
keeps_of g memory c desk told sound = record { kept = sound.kept; within = sound.within }

-- what a call leaves
pub record Ends {A : Type 0} (memory : ℕ) (told : Option (List Entry)) (call : Call A) (memory2 : ℕ) (c2 : Cache) (desk2 : Desk) (told2 : Option (List Entry)) : Type 0 where
  pub cache_is : c2 ≡ call.cache
  pub desk_is : desk2 ≡ call.desk
  pub noted : told2 ≡ with_more call.entries told
  pub memory_is : memory2 ≡ memory

module _ {A : Type 0} (g : Geometry) (memory : ℕ) (c : Cache) (desk : Desk) (told : Option (List Entry)) (was : IsSound g memory c desk told) where
  ends_sound : (call : Call A) (memory2 : ℕ) (c2 : Cache) (desk2 : Desk) (told2 : Option (List Entry)) → Ends memory told call memory2 c2 desk2 told2
      → HasRun g call.cache call.desk (with_more call.entries told) → Keeps g.item_max call.cache → IsSound g memory2 c2 desk2 told2
  ends_sound call memory2 c2 desk2 told2 ends runs keeps =
      subst (λ (m : ℕ). IsSound g m c2 desk2 told2) (sym ends.memory_is)
      (subst (λ (d : Cache). IsSound g memory d desk2 told2) (sym ends.cache_is)
      (subst (λ (d : Desk). IsSound g memory call.cache d told2) (sym ends.desk_is)
      (subst (λ (t : Option (List Entry)). IsSound g memory call.cache call.desk t) (sym ends.noted)
      (record { passes = was.passes; kept = keeps.kept; within = keeps.within; shares = was.shares; runs = runs }))))

  -- after a call that notes no step
  pub sound_after : (call : Call A) → ((h : List Entry) → IsRunning g h c desk → LeavesARun g h call) → (memory2 : ℕ) (c2 : Cache) (desk2 : Desk) (told2 : Option (List Entry))
      → Ends memory told call memory2 c2 desk2 told2 → Keeps g.item_max call.cache → IsSound g memory2 c2 desk2 told2
  sound_after call law memory2 c2 desk2 told2 ends keeps = ends_sound call memory2 c2 desk2 told2 ends (goes_on g c desk call law told was.runs) keeps

  -- after a call that notes a step
  pub sound_by : (call : Id → Call A) (id : Id) → ((i : Id) → (call i).cache ≡ (call id).cache) → ((i : Id) → (call i).desk ≡ (call id).desk)
      → ((h : List Entry) (i : Id) → IsRunning g h c desk → IsNew h i → LeavesARun g h (call i)) → IsNewTold told id → (memory2 : ℕ) (c2 : Cache) (desk2 : Desk) (told2 : Option (List Entry))
      → Ends memory told (call id) memory2 c2 desk2 told2 → Keeps g.item_max (call id).cache → IsSound g memory2 c2 desk2 told2
  sound_by call id caches desks law new memory2 c2 desk2 told2 ends keeps =
      ends_sound (call id) memory2 c2 desk2 told2 ends (goes_on_by g c desk call id caches desks law told new was.runs) keeps
