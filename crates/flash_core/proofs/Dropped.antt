-- What the drop of an item leaves.
use Rattle.std.proofs.Common.{◌≡◌, Bool, List, [], ◌++◌, Option, None, Some, Result, Ok, Err, refl, sym, ◌∙◌, ap, subst}
use Rattle.std.specs.Prelude.{OnOk, OnErr, option_map}
use Rattle.std.proofs.lemmas.List.{append-nil}
use Rattle.flash_names.specs.Told.{with_more}
use Rattle.flash_names.specs.declared.geometry.Geometry.{Geometry}
use Rattle.flash_entry.specs.declared.entry.Entry.{Entry}
use Rattle.flash_blocks.specs.BlockTable.{BlockTable}
use Rattle.flash_machine.specs.Cache.{Cache, Items}
use Rattle.flash_index.specs.IndexState.{IndexState}
use Rattle.flash_calls.specs.Rooms.{Leaver, drop_if}
use Rattle.flash_calls.specs.Running.{IsRunning, LeavesARun}
use Rattle.flash_calls.specs.Store.{Desk, Store}
use Rattle.flash_core.specs.declared.numbers.Numbers.{Numbers}
use Rattle.flash_core.specs.declared.room.Leaver as code
use Rattle.flash_core.specs.Desks.{desk_of}
use Rattle.flash_core.specs.Numbers.{cache_of_items}
use Rattle.flash_core.specs.Rooms.{AreLeavers, HasDropped, entries_of_drop, items_without, desk_without}
use Rattle.flash_core.specs.Sound.{IsSound}
use Rattle.flash_core.proofs.Closing.{keeps_of, sound_after}
use Rattle.flash_core.proofs.Kept.{drop_keeps}

-- nothing behind what is told
pub more_none : (told : Option (List Entry)) → with_more [] told ≡ told
more_none None = refl
more_none (Some h) = ap (λ (l : List Entry). Some l) (append-nil h)

module _ (items : Items) (numbers : Numbers) (desk : Desk) where
  pub drop_cache : (leaver : Option Leaver) → cache_of_items (items_without leaver items) numbers ≡ (drop_if (cache_of_items items numbers) desk leaver).cache
  drop_cache None = refl
  drop_cache (Some leaver) = refl

  pub drop_desk : (leaver : Option Leaver) → desk_without leaver desk ≡ (drop_if (cache_of_items items numbers) desk leaver).desk
  drop_desk None = refl
  drop_desk (Some leaver) = refl

  pub drop_entries : (leaver : Option Leaver) → entries_of_drop leaver ≡ (drop_if (cache_of_items items numbers) desk leaver).entries
  drop_entries None = refl
  drop_entries (Some leaver) = refl

  pub drop_answer : (leaver : Option Leaver) → option_map (λ one. one.key) leaver ≡ (drop_if (cache_of_items items numbers) desk leaver).answer
  drop_answer None = refl
  drop_answer (Some leaver) = refl

module _ (g : Geometry) (s : IndexState) (t : BlockTable) (s2 : IndexState) (t2 : BlockTable) (numbers : Numbers) (told told2 : Option (List Entry)) where
  abbrev before : Cache
  before = cache_of_items s.items numbers

  abbrev desk : Desk
  desk = desk_of s t

  abbrev GoesOn : Option Leaver → Type 0
  GoesOn leaver = (h : List Entry) → IsRunning g h before desk → LeavesARun g h (drop_if before desk leaver)

  -- the store is sound after a drop
  sound_dropped : (leaver : Option Leaver) → IsSound g s.memory before desk told → GoesOn leaver → HasDropped leaver told told2 s t s2 t2
      → IsSound g s2.memory (cache_of_items s2.items numbers) (desk_of s2 t2) told2
  sound_dropped leaver was goes dropped =
      sound_after g s.memory before desk told was (drop_if before desk leaver) goes s2.memory (cache_of_items s2.items numbers) (desk_of s2 t2) told2
      (record {
        cache_is = ap (λ (m : Items). cache_of_items m numbers) dropped.left.items_are ∙ drop_cache s.items numbers desk leaver;
        desk_is = dropped.left.desk_is ∙ drop_desk s.items numbers desk leaver;
        noted = dropped.noted ∙ ap (λ (es : List Entry). with_more es told) (drop_entries s.items numbers desk leaver);
        memory_is = dropped.left.memory_is;
      })
      (drop_keeps g.item_max before desk (keeps_of g s.memory before desk told was) leaver)

  -- and is as the call says
  abbrev now : Bool → Store
  now ready = record { geometry = g; told = told2; ready = ready; cache = cache_of_items s2.items numbers; desk = desk_of s2 t2 }

  pub after_drop : (ready : Bool) (leaver : Option Leaver) → HasDropped leaver told told2 s t s2 t2 → let call = drop_if before desk leaver in
      ◌≡◌ {A = Store} (now ready) (record { geometry = g; told = with_more call.entries told; ready = ready; cache = call.cache; desk = call.desk })
  after_drop ready leaver dropped = λ j. record {
    geometry = g;
    told = (dropped.noted ∙ ap (λ (es : List Entry). with_more es told) (drop_entries s.items numbers desk leaver)) j;
    ready = ready;
    cache = (ap (λ (m : Items). cache_of_items m numbers) dropped.left.items_are ∙ drop_cache s.items numbers desk leaver) j;
    desk = (dropped.left.desk_is ∙ drop_desk s.items numbers desk leaver) j;
  }

  -- and where memory ran out
  pub sound_either : {A E : Type 0} (result : Result A E) (one : Option code.Leaver) (leaver : Option Leaver) → AreLeavers s one leaver
      → OnOk result ((is : Option Leaver) → AreLeavers s one is → HasDropped is told told2 s t s2 t2)
      → OnErr result (told2 ≡ told) → OnErr result (s2 ≡ s) → OnErr result (t2 ≡ t) → IsSound g s.memory before desk told → GoesOn leaver
      → IsSound g s2.memory (cache_of_items s2.items numbers) (desk_of s2 t2) told2
  sound_either (Ok a) one leaver named dropped same_told same same_blocks was goes = sound_dropped leaver was goes (dropped leaver named)
  sound_either (Err e) one leaver named dropped same_told same same_blocks was goes =
      subst (λ (t : Option (List Entry)). IsSound g s2.memory (cache_of_items s2.items numbers) (desk_of s2 t2) t) (sym same_told)
      (subst (λ (b : BlockTable). IsSound g s2.memory (cache_of_items s2.items numbers) (desk_of s2 b) told) (sym same_blocks)
      (subst (λ (u : IndexState). IsSound g u.memory (cache_of_items u.items numbers) (desk_of u t) told) (sym same) was))
